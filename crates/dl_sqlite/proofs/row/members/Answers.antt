use Rattle.std.proofs.Common.{◌≡◌, ◌≤◌, ◌∷◌, ◌+◌, drop, length, string_bytes, sym, ap, subst, ◌∙◌}
use Rattle.serde_json.specs.Data.{put}
use Rattle.serde_json.specs.View.{view, members_view}
use Rattle.serde_json.proofs.Views.{members_view-insert_entry}
use Rattle.sqlite_value.specs.Order.{column}
use Rattle.dl_sqlite.specs.Rows.{HaveJson, HasJson, with_columns, json_of, value_at}
use Rattle.dl_sqlite.proofs.Steps.{next_of, none_after}
use Rattle.dl_sqlite.proofs.row.members.Goals as goal

pub loop-at-preserved : goal.loop-at-preserved
loop-at-preserved c =
    let l = c.loop-at in
    let t = c.args.table.now in
    let row = c.args.row.now in
    let x = c.column-item.result in
    let all = c.as_slice-column-items in
    let here : drop l.at t.columns ≡ x ∷ drop (l.at + 1) t.columns =
    subst (λ cs. drop l.at cs ≡ x ∷ drop (l.at + 1) cs) all.ensures (next_of all.result.now l.at x c.loop-at-test.true c.column-item.is) in
    let named : string_bytes c.in_ok-name.name ≡ x.name = c.in_ok-name.ensures ∙ c.as_slice.ensures in
    let valued : view c.in-Ok.value ≡ json_of (value_at t row l.at) =
    c.in-Ok.ensures.json ∙ ap json_of c.get.ensures ∙ ap (λ p. json_of (column row p)) c.place_of.ensures in
    let good : HasJson (value_at t row l.at) = subst HasJson (c.get.ensures ∙ ap (λ p. column row p) c.place_of.ensures) c.in-Ok.ensures.whole in
    let inserted : members_view c.insert.new.self.entries ≡ put x.name (json_of (value_at t row l.at)) (members_view l.members.entries) =
    ap members_view c.in_ok-insert.ensures.entries ∙ members_view-insert_entry l.members.entries c.in_ok-name.name c.in-Ok.value
    ∙ ap (λ k. put k (view c.in-Ok.value) (members_view l.members.entries)) named ∙ ap (λ d. put x.name d (members_view l.members.entries)) valued in
    record {
      json = ap (with_columns t row (l.at + 1) (drop (l.at + 1) t.columns)) inserted
          ∙ ap (λ cs. with_columns t row l.at cs (members_view l.members.entries)) (sym here) ∙ l.invariant.json;
      whole = λ rest. l.invariant.whole (subst (HaveJson t row l.at) (sym here) (good, rest));
    }

pub returns-clause-json : goal.returns-clause-json
returns-clause-json c =
    let t = c.args.table.now in
    let none = none_after t.columns c.loop-at.at (subst (λ cs. length cs ≤ c.loop-at.at) c.as_slice-column-items.ensures c.loop-at-test.false) in
    ap (λ cs. with_columns t c.args.row.now c.loop-at.at cs (members_view c.loop-at.members.entries)) (sym none) ∙ c.loop-at.invariant.json

pub returns-clause-whole : goal.returns-clause-whole
returns-clause-whole c =
    let t = c.args.table.now in
    let none = none_after t.columns c.loop-at.at (subst (λ cs. length cs ≤ c.loop-at.at) c.as_slice-column-items.ensures c.loop-at-test.false) in
    c.loop-at.invariant.whole (subst (HaveJson t c.args.row.now c.loop-at.at) (sym none) tt)

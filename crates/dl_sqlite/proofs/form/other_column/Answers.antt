use Rattle.std.proofs.Common.{◌≡◌, ◌+◌, ◌&&◌, true, drop, sym, ap, ◌∙◌, arith}
use Rattle.std.specs.List.{list_all}
use Rattle.dl_sqlite.specs.Form.{has_json_kind}
use Rattle.dl_sqlite.proofs.Steps.{next_of, none_after}
use Rattle.dl_sqlite.proofs.form.other_column.Goals as goal

pub loop-column-preserved : goal.loop-column-preserved
loop-column-preserved c =
    let l = c.loop-column in
    let xs = c.args.columns.now in
    let x = c.column-item.result in
    let rest = list_all (λ c. has_json_kind c.kind) (drop (l.column-index + 1) xs) in
    let here = next_of xs l.column-index x (omega arith) c.column-item.is in
    let yes : has_json_kind x.kind ≡ true = sym c.has_json_kind.ensures ∙ c.if-not-has_json_kind.false in
    sym (ap (λ b. b && rest) yes) ∙ sym (ap (list_all (λ c. has_json_kind c.kind)) here) ∙ l.invariant

pub returns : goal.returns
returns c =
    sym c.loop-column.invariant ∙ ap (list_all (λ c. has_json_kind c.kind)) (none_after c.args.columns.now c.loop-column.column-index (omega arith))

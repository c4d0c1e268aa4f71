use Rattle.std.proofs.Common.{◌≡◌, false, true, Ok, Some, None, ◌++◌, ◌∷◌, [], length, if◌then◌else◌, ap, sym, ◌∙◌, arith, rules, append_assoc, string_bytes}
use Rattle.std.proofs.lemmas.Result.{IfOk-from_err}
use Rattle.std.specs.List.{list_any}
use Rattle.std.specs.Vec.Iter.{into_iter_items}
use Rattle.dl_values.specs.TableLimits.{lists, repeats}
use Rattle.dl_source.specs.Faults.{is_not_whole}
use Rattle.dl_values.proofs.Repeats.{clashes, clashes_first, or_left_false, or_right_false}
use Rattle.dl_source.proofs.Lists.{nothing_left}
use Rattle.dl_source.proofs.Repeats.{was_new, was_there, found_next, goes_on_next, none_clash}
use Rattle.dl_source.proofs.tables.Table.from_listed.Goals as goal

pub loop-listed-init : goal.loop-listed-init
loop-listed-init c =
    let given = c.into_iter-listed-iterator.ensures.into_iter_gives in
    let empty = c.in_ok-table.ensures in
    record {
      order = ap (λ t. t ++ into_iter_items c.into_iter-listed-iterator.result) empty ∙ given.0;
      ids = ap (λ t. clashes t (into_iter_items c.into_iter-listed-iterator.result)) empty
          ∙ ap (clashes []) given.0
          ∙ clashes_first c.args.findings.items;
      whole = ap (list_any (λ e. is_not_whole e.1)) given.0 ∙ c.requires;
      count = search rules;
    }

pub into_finding-requires : goal.into_finding-requires
into_finding-requires c =
    let l = c.loop-listed in
    let whole = sym (ap (list_any (λ e. is_not_whole e.1)) c.in-Some.ensures.steps.0) ∙ l.invariant.whole in
    ap (λ e. is_not_whole e.1) (sym c.into_parts-id.ensures) ∙ or_left_false _ _ whole

pub returns-then-not-branch : goal.returns-then-not-branch
returns-then-not-branch c =
    let l = c.loop-listed in
    let e = c.in-Some.listed in
    let there : lists (string_bytes c.into_parts-id.result.0) l.table ≡ true = was_there _ (sym c.if-not-branch.true ∙ c.in_ok-add.ensures.found) in
    let again : repeats c.args.findings.items ≡ true =
    found_next l.table (into_iter_items c.next.new.self) (into_iter_items l.listed-iterator) e _ c.in-Some.ensures.steps.0 l.invariant.ids
    (ap (λ x. lists x.0 l.table) c.into_parts-id.ensures ∙ there) in
    sym (ap (λ b. if b then None else Some c.args.findings.items) again)

pub loop-listed-preserved : goal.loop-listed-preserved
loop-listed-preserved c =
    let l = c.loop-listed in
    let e = c.in-Some.listed in
    let rest = into_iter_items c.next.new.self in
    let steps : into_iter_items l.listed-iterator ≡ e ∷ rest = c.in-Some.ensures.steps.0 in
    let was : lists (string_bytes c.into_parts-id.result.0) l.table ≡ false = was_new _ (sym c.if-not-branch.false ∙ c.in_ok-add.ensures.found) in
    let new : lists e.0 l.table ≡ false = ap (λ x. lists x.0 l.table) c.into_parts-id.ensures ∙ was in
    let same : (string_bytes c.into_parts-id.result.0, c.in_ok-finding.finding) ≡ e =
    ap (λ x. (string_bytes c.into_parts-id.result.0, x)) c.in_ok-finding.ensures ∙ sym c.into_parts-id.ensures in
    let added = c.in_ok-add.ensures.added (ap Ok c.if-not-branch.false) ∙ ap (λ x. l.table ++ x ∷ []) same in
    record {
      order = ap (λ t. t ++ rest) added ∙ append_assoc l.table (e ∷ []) rest ∙ ap (λ r. l.table ++ r) (sym steps) ∙ l.invariant.order;
      ids = ap (λ t. clashes t rest) added ∙ goes_on_next l.table rest (into_iter_items l.listed-iterator) e _ steps l.invariant.ids new;
      whole = or_right_false _ _ (sym (ap (list_any (λ x. is_not_whole x.1)) steps) ∙ l.invariant.whole);
      count = (
          let was = l.invariant.count in
          let gone = c.in-Some.ensures.steps.1 in
          let short = ap length steps in
          omega arith);
    }

pub returns-in_err-table : goal.returns-in_err-table
returns-in_err-table c = IfOk-from_err _ _ c.from_residual.ensures.0

pub returns-in_err-finding : goal.returns-in_err-finding
returns-in_err-finding c = IfOk-from_err _ _ c.from_residual-in_err-finding.ensures.0

pub returns-in_err-add : goal.returns-in_err-add
returns-in_err-add c = IfOk-from_err _ _ c.from_residual-in_err-add.ensures.0

pub returns : goal.returns
returns c =
    let l = c.loop-listed in
    let none = nothing_left _ (sym l.invariant.count ∙ c.in-None.ensures.steps.0) in
    none_clash l.table c.args.findings.items (into_iter_items l.listed-iterator) none l.invariant.order l.invariant.ids

use Rattle.std.proofs.Common.{rules, refl, ◌≡◌, sym, ap, ◌∙◌, map, codes, Bool, if◌then◌else◌, Some, None, Err, inl, inr}
use Rattle.std.proofs.lemmas.Result.{IfOk-from_err}
use Rattle.dl_documents.specs.Inside.Top.{top_data}
use Rattle.dl_documents.specs.Inside.Trees.{tree_data, list_data}
use Rattle.dl_documents.specs.Document.{items_at, list_name}
use Rattle.serde_json.specs.View.{items_of}
use Rattle.dl_documents.specs.Faults.{HasNoNumbers, LacksList}
use Rattle.dl_documents.specs.Inside.Scripts.{AreCalls}
use Rattle.dl_documents.specs.Script.{calls_tree}
use Rattle.dl_documents.proofs.Order.{least_top}
use Rattle.dl_documents.proofs.OwnNumbers.{script_named}
use Rattle.dl_documents.proofs.ScriptVerdicts.{least_call, least_script_limit}
use Rattle.dl_documents.proofs.TopMembers.{list_there}
use Rattle.dl_documents.proofs.TreeLists.{list_data_is}
use Rattle.dl_documents.proofs.scripts.script.Goals as goal

pub returns-in_err-numbers-clause-err : goal.returns-in_err-numbers-clause-err
returns-in_err-numbers-clause-err c =
    let h = c.args.head in
    let same : c.from_residual.result ≡ Err c.in_err-numbers.field-0.0 = search rules in
    rw same (elim c.in_err-numbers.ensures.err [
      | inl memory ↦ inl memory
      | inr bad ↦ inr (rw bad.0 (least_top _ h.version c.requires.head.version
          (HasNoNumbers h.version c.requires.kind c.requires.head.version (sym bad.1))))
    ])

pub returns-in_default-clause-err : goal.returns-in_default-clause-err
returns-in_default-clause-err c =
    let d = top_data c.args.top in
    let none : items_at (codes "calls") d ≡ None = list_there c.args.top (codes "calls") refl ∙ sym c.in_default.ensures in
    let named : items_at (list_name d) d ≡ None = ap (λ (b : Bool). items_at (if b then codes "calls" else codes "plans") d) c.requires.kind ∙ none in
    inr (least_top d c.args.head.version c.requires.head.version (LacksList named))

pub returns-in_err-calls-clause-err : goal.returns-in_err-calls-clause-err
returns-in_err-calls-clause-err c =
    let given : items_at (codes "calls") (top_data c.args.top) ≡ Some (list_data c.in-Some.items.items) = list_there c.args.top (codes "calls") refl ∙ search rules in
    let list = given ∙ ap (λ ds. Some ds) (list_data_is c.in-Some.items.items) in
    let same : c.from_residual-in_err-calls.result ≡ Err c.in_err-calls.field-0.0 = search rules in
    rw same (elim c.in_err-calls.ensures.err [
      | inl memory ↦ inl memory
      | inr bad ↦ inr (least_call _ c.args.head (map tree_data c.in-Some.items.items) c.in_ok-numbers.numbers.items c.requires.kind c.requires.head list
          (sym c.in_ok-numbers.ensures.ok) _ bad)
    ])

pub returns-in_err-limits-clause-err : goal.returns-in_err-limits-clause-err
returns-in_err-limits-clause-err c =
    let given : items_at (codes "calls") (top_data c.args.top) ≡ Some (list_data c.in-Some.items.items) = list_there c.args.top (codes "calls") refl ∙ search rules in
    let list = given ∙ ap (λ ds. Some ds) (list_data_is c.in-Some.items.items) in
    let same : c.from_residual-in_err-limits.result ≡ Err c.in_err-limits.field-0.0 = search rules in
    rw same (elim c.in_err-limits.ensures.err [
      | inl memory ↦ inl memory
      | inr bad ↦ inr (least_script_limit _ c.args.head (map tree_data c.in-Some.items.items) c.in_ok-numbers.numbers.items c.requires.kind c.requires.head list
          (sym c.in_ok-numbers.ensures.ok) c.in_ok-calls.calls.items _ c.in_ok-calls.ensures.ok bad)
    ])

pub all_limits-requires : goal.all_limits-requires
all_limits-requires c = script_named (top_data c.args.top) c.args.head.version c.in_ok-numbers.numbers.items (sym c.in_ok-numbers.ensures.ok)

pub returns-in_err-numbers-clause-ok : goal.returns-in_err-numbers-clause-ok
returns-in_err-numbers-clause-ok c = IfOk-from_err _ _ c.from_residual.ensures.0

pub returns-in_err-calls-clause-ok : goal.returns-in_err-calls-clause-ok
returns-in_err-calls-clause-ok c = IfOk-from_err _ _ c.from_residual-in_err-calls.ensures.0

pub returns-in_err-limits-clause-ok : goal.returns-in_err-limits-clause-ok
returns-in_err-limits-clause-ok c = IfOk-from_err _ _ c.from_residual-in_err-limits.ensures.0

pub returns-clause-ok : goal.returns-clause-ok
returns-clause-ok c =
    let given : items_at (codes "calls") (top_data c.args.top) ≡ Some (list_data c.in-Some.items.items) = list_there c.args.top (codes "calls") refl ∙ search rules in
    let read : AreCalls (map tree_data c.in-Some.items.items) c.in_ok-calls.calls.items = search rules in
    let list : items_at (codes "calls") (top_data c.args.top) ≡ Some (calls_tree c.in_ok-calls.calls.items) =
    given ∙ ap (λ ds. Some ds) (list_data_is c.in-Some.items.items ∙ ap items_of read.trees) in
    search rules

use Rattle.std.proofs.Common.{rules, ◌≡◌, map, Err, inl, inr}
use Rattle.dl_documents.specs.Inside.Top.{top_data}
use Rattle.serde_json.specs.View.{view}
use Rattle.dl_documents.specs.Document.{forms_of}
use Rattle.dl_documents.specs.Steps.{plan_view}
use Rattle.dl_documents.specs.Inside.PlanFiles.{rows_view, HasPlans, AreRead, AreRest}
use Rattle.dl_documents.proofs.Order.{least_top}
use Rattle.dl_documents.proofs.PlanVerdicts.{least_shape, least_refusal}
use Rattle.dl_documents.proofs.PlanSpelling.{spells}
use Rattle.dl_documents.proofs.plan_files.plan_file.Goals as goal

pub returns-in_err-lists-clause-err : goal.returns-in_err-lists-clause-err
returns-in_err-lists-clause-err c =
    let same : c.from_residual.result ≡ Err c.in_err-lists.field-0.0 = search rules in
    rw same (elim c.in_err-lists.ensures.err [
      | inl memory ↦ inl memory
      | inr bad ↦ inr (rw bad.0 (least_top (top_data c.args.top) c.args.head.version c.requires.head.version bad.1))
    ])

pub returns-in_err-plans-clause-err : goal.returns-in_err-plans-clause-err
returns-in_err-plans-clause-err c =
    let top : HasPlans (top_data c.args.top) (rows_view c.in_ok-lists.lists.items) (view c.in_ok-lists.tables) = search rules in
    let same : c.from_residual-in_err-plans.result ≡ Err c.in_err-plans.field-0.0 = search rules in
    rw same (elim c.in_err-plans.ensures.err [
      | inl memory ↦ inl memory
      | inr bad ↦ inr (least_shape (top_data c.args.top) c.args.head (rows_view c.in_ok-lists.lists.items) (view c.in_ok-lists.tables)
          c.requires.kind c.requires.head top c.in_err-plans.field-0.0 (rw c.requires.head.forms at bad))
    ])

pub returns-in_err-tables-clause-err : goal.returns-in_err-tables-clause-err
returns-in_err-tables-clause-err c =
    let top : HasPlans (top_data c.args.top) (rows_view c.in_ok-lists.lists.items) (view c.in_ok-lists.tables) = search rules in
    let as_given : AreRead c.args.head.forms (rows_view c.in_ok-lists.lists.items) (map plan_view c.in_ok-plans.plans.items) = search rules in
    let read : AreRead (forms_of (top_data c.args.top)) (rows_view c.in_ok-lists.lists.items) (map plan_view c.in_ok-plans.plans.items) =
    rw c.requires.head.forms at as_given in
    let same : c.from_residual-in_err-tables.result ≡ Err c.in_err-tables.field-0.0 = search rules in
    rw same (elim c.in_err-tables.ensures.err [
      | inl memory ↦ inl memory
      | inr bad ↦ inr (least_refusal (top_data c.args.top) c.args.head (rows_view c.in_ok-lists.lists.items) (view c.in_ok-lists.tables)
          c.requires.kind c.requires.head top (map plan_view c.in_ok-plans.plans.items) read c.in_err-tables.field-0.0 (rw c.as_slice.ensures.value at bad))
    ])

pub returns-clause-ok : goal.returns-clause-ok
returns-clause-ok c =
    let top : HasPlans (top_data c.args.top) (rows_view c.in_ok-lists.lists.items) (view c.in_ok-lists.tables) = search rules in
    let as_given : AreRead c.args.head.forms (rows_view c.in_ok-lists.lists.items) (map plan_view c.in_ok-plans.plans.items) = search rules in
    let read : AreRead (forms_of (top_data c.args.top)) (rows_view c.in_ok-lists.lists.items) (map plan_view c.in_ok-plans.plans.items) =
    rw c.requires.head.forms at as_given in
    let tables = c.in_ok-tables in
    let rest : AreRest (map plan_view c.in_ok-plans.plans.items) (view c.in_ok-lists.tables) c.args.head (tables.tables, tables.limits, tables.table_limits) =
    rw c.as_slice.ensures.value at c.in_ok-tables.ensures.ok in
    spells (top_data c.args.top) c.args.head (rows_view c.in_ok-lists.lists.items) (view c.in_ok-lists.tables)
    (record { limits = tables.limits; table_limits = tables.table_limits; tables = tables.tables; plans = c.in_ok-plans.plans }) c.requires.kind
    c.requires.head top read rest

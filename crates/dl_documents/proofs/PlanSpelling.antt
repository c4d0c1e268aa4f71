-- What is read of a plan file is what its tree spells, and nothing is refused of it.
use Rattle.std.proofs.Common.{◌≡◌, List, [], ◌∷◌, length, map, true, false, Some, refl, sym, ap, subst, ◌∙◌}
use Rattle.std.proofs.lemmas.List.{length-map}
use Rattle.std.specs.List.{AllByRecursion}
use Rattle.serde_json.specs.Data.{Data, Items, item}
use Rattle.dl_source.specs.declared.fault.TableFault.{TableFault}
use Rattle.dl_documents.specs.Document.{SpellsPlans, IsOfVersion, forms_of, has_only_known, is_script}
use Rattle.dl_documents.specs.Tables.{SpellsNumbers, TableCauses}
use Rattle.dl_documents.specs.Faults.{Causes}
use Rattle.dl_source.specs.declared.table_number.TableNumber.{TableNumber}
use Rattle.dl_documents.specs.OwnLimits.{version_by, own}
use Rattle.dl_documents.specs.Inside.Results.{HasHead}
use Rattle.dl_documents.specs.Inside.PlanFiles.{rows_tree, HasPlans, AreRead, AreLow, AreFew, AreRest}
use Rattle.dl_documents.specs.Steps.{StepTree, step_tree, plans_tree, plan_tree, plan_view, IsPlanStep, IsPlan}
use Rattle.dl_documents.specs.declared.forms.Forms.{Forms}
use Rattle.dl_documents.specs.declared.fault.PlanFault.{PlanFault}
use Rattle.dl_documents.specs.declared.input.PlanFile.{PlanFile}
use Rattle.dl_documents.specs.declared.head.Head.{Head}
use Rattle.dl_documents.specs.declared.head.Version.{Version}
use Rattle.dl_documents.proofs.AsLimits.{are_inside}
use Rattle.dl_documents.proofs.OwnNumbers.{tables_only}
use Rattle.dl_documents.proofs.LimitVerdicts.{gives_limits, numbers_of, are_given, clear_given}
use Rattle.dl_documents.proofs.Order.{Clear, no_cause}
use Rattle.dl_documents.proofs.PlanVerdicts.{clear_10}

-- the lists of the steps' trees make the tree of the plans
plans_rows : (plans : List (List StepTree)) → rows_tree (map (map step_tree) plans) ≡ plans_tree plans
plans_rows [] = refl
plans_rows (plan ∷ plans) = ap (item (plan_tree plan)) (plans_rows plans)

all_plans : (forms : Forms) (plans : List (List StepTree)) → AllByRecursion (AllByRecursion (IsPlanStep forms)) plans → AllByRecursion AreLow plans
    → AllByRecursion AreFew plans → AllByRecursion (IsPlan forms) plans
all_plans forms [] steps low few = tt
all_plans forms (plan ∷ plans) steps low few = (record { steps = steps.0; low = low.0; few = few.0 }, all_plans forms plans steps.1 low.1 few.1)

plans_steps : (forms : Forms) (plans : List (List StepTree)) → AllByRecursion (IsPlan forms) plans → AllByRecursion (AllByRecursion (IsPlanStep forms)) plans
plans_steps forms [] all = tt
plans_steps forms (plan ∷ plans) all = (all.0.steps, plans_steps forms plans all.1)

plans_low : (forms : Forms) (plans : List (List StepTree)) → AllByRecursion (IsPlan forms) plans → AllByRecursion AreLow plans
plans_low forms [] all = tt
plans_low forms (plan ∷ plans) all = (all.0.low, plans_low forms plans all.1)

plans_few : (forms : Forms) (plans : List (List StepTree)) → AllByRecursion (IsPlan forms) plans → AllByRecursion AreFew plans
plans_few forms [] all = tt
plans_few forms (plan ∷ plans) all = (all.0.few, plans_few forms plans all.1)

-- ---- what is spelled

-- what was read is what the tree spells
pub spells : (d : Data) (h : Head) (rows : List (List Data)) (tree : Data) (file : PlanFile) → is_script d ≡ false → HasHead d h → HasPlans d rows tree
    → AreRead (forms_of d) rows (map plan_view file.plans.items)
    → AreRest (map plan_view file.plans.items) tree h (file.tables, file.limits, file.table_limits) → SpellsPlans d file
spells d h rows tree file kind head top read rest =
    let v : version_by file.table_limits ≡ h.version = rest.limits.own.same in
    let plans : List (List StepTree) = map plan_view file.plans.items in
    let size : length rows ≡ length file.plans.items =
    ap (λ (xs : List (List Data)). length xs) read.trees ∙ (length-map plans (map step_tree) ∙ length-map file.plans.items plan_view) in
    record {
      kind = kind;
      version = subst (IsOfVersion d) (sym v) head.version;
      members = subst (λ (u : Version). has_only_known u d ≡ true) (sym v) head.members;
      list = top.list ∙ ap (λ (ds : Items). Some ds) (ap rows_tree read.trees ∙ plans_rows plans);
      count = rw size at top.count;
      plans = all_plans (forms_of d) plans read.steps rest.fit.low rest.fit.few;
      tables = record {
        tree = tree;
        member = top.tables;
        given = rest.numbers;
        spelled = subst (λ (u : Version). SpellsNumbers u tree file.tables rest.numbers) (sym v) rest.tables.spelled;
        lawful = subst (λ (u : Version). (f : TableFault) → TableCauses u tree f → ⊥) (sym v) rest.tables.lawful;
        limits = rest.limits.own.limits;
      };
      limits = gives_limits d h.numbers file.limits head.numbers rest.limits.top;
    }

-- nothing is refused of what spells a plan file
pub plans_pass : (d : Data) (file : PlanFile) → SpellsPlans d file → (f : PlanFault) → Causes d f → ⊥
plans_pass d file spelled =
    let plans : List (List StepTree) = map plan_view file.plans.items in
    let v : Version = version_by file.table_limits in
    let h : Head = record { version = v; forms = forms_of d; numbers = numbers_of file.limits } in
    let head : HasHead d h = record {
      version = spelled.version;
      forms = refl;
      members = spelled.members;
      numbers = are_given d file.limits spelled.limits;
    } in
    let size : length (map (map step_tree) plans) ≡ length file.plans.items = length-map plans (map step_tree) ∙ length-map file.plans.items plan_view in
    let top : HasPlans d (map (map step_tree) plans) spelled.tables.tree =
    record {
      list = spelled.list ∙ ap (λ (ds : Items). Some ds) (sym (plans_rows plans));
      count = rw size spelled.count;
      tables = spelled.tables.member;
    } in
    let ns : List TableNumber = spelled.tables.given in
    let low : Clear d 10 = clear_10 d h (map (map step_tree) plans) spelled.tables.tree spelled.kind head top plans
    (record { trees = refl; steps = plans_steps (forms_of d) plans spelled.plans })
    (record { low = plans_low (forms_of d) plans spelled.plans; few = plans_few (forms_of d) plans spelled.plans })
    spelled.tables.lawful in
    no_cause d (clear_given d file.limits ns spelled.limits
    (tables_only d v spelled.tables.tree file.tables ns spelled.kind spelled.version spelled.tables.member spelled.tables.spelled)
    (are_inside ns (own file.table_limits) spelled.tables.limits) low)

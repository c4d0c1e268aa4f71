-- A tree spells one plan file: its tables, and its plans as their trees.
use Rattle.std.proofs.Common.{◌≡◌, ◌∙◌, sym, ap, subst, List, [], ◌∷◌, map, refl}
use Rattle.std.proofs.lemmas.Option.{same_Some}
use Rattle.std.specs.List.{AllByRecursion}
use Rattle.serde_json.specs.Data.{Data, array, no_items, item}
use Rattle.serde_json.specs.View.{items_of}
use Rattle.dl_source.specs.Tables.{Tables}
use Rattle.dl_source.proofs.Spelling.{tables_reader, numbered_tables_reader}
use Rattle.dl_documents.specs.Document.{SpellsPlans, forms_of}
use Rattle.dl_documents.specs.OwnLimits.{version_by}
use Rattle.dl_documents.specs.StepReading.{step_in}
use Rattle.dl_documents.specs.Steps.{StepTree, step_tree, steps_tree, plan_tree, plans_tree, plan_view, IsPlanStep, IsPlan}
use Rattle.dl_documents.specs.Tables.{SpellsTables}
use Rattle.dl_documents.specs.declared.forms.Forms.{Forms}
use Rattle.dl_documents.specs.declared.head.Version.{Version}
use Rattle.dl_documents.specs.declared.head.Version.TheVariants.{First, Second}
use Rattle.dl_documents.specs.declared.input.PlanFile.{PlanFile}
use Rattle.dl_documents.proofs.OwnNumbers.{spells_tables}
use Rattle.dl_documents.proofs.StepLaws.{step_again}
use Rattle.dl_documents.proofs.Versions.{one_version}

-- ---- lists

same_items : (xs ys : List Data) → items_of xs ≡ items_of ys → xs ≡ ys
same_items [] [] e = refl
same_items [] (y ∷ ys) e = absurd (let bad : no_items ≡ item y (items_of ys) = e in cc)
same_items (x ∷ xs) [] e = absurd (let bad : item x (items_of xs) ≡ no_items = e in cc)
same_items (x ∷ xs) (y ∷ ys) e =
    let both : item x (items_of xs) ≡ item y (items_of ys) = e in
    let first : x ≡ y = cc in
    let rest : items_of xs ≡ items_of ys = cc in
    ap (λ (z : Data). z ∷ xs) first ∙ ap (λ (zs : List Data). y ∷ zs) (same_items xs ys rest)

-- where a tree spells one value, a list of trees spells one list of values
module _ {A : Type 0} (spell : A → Data) (Is : A → Type 0) (one : (x y : A) → Is x → Is y → spell x ≡ spell y → x ≡ y) where
  same_spelled : (xs ys : List A) → AllByRecursion Is xs → AllByRecursion Is ys → map spell xs ≡ map spell ys → xs ≡ ys
  same_spelled [] [] all also e = refl
  same_spelled [] (y ∷ ys) all also e = absurd (let bad : ◌≡◌ {A = List Data} [] (spell y ∷ map spell ys) = e in cc)
  same_spelled (x ∷ xs) [] all also e = absurd (let bad : ◌≡◌ {A = List Data} (spell x ∷ map spell xs) [] = e in cc)
  same_spelled (x ∷ xs) (y ∷ ys) all also e =
      let both : ◌≡◌ {A = List Data} (spell x ∷ map spell xs) (spell y ∷ map spell ys) = e in
      let first : spell x ≡ spell y = cc in
      let rest : map spell xs ≡ map spell ys = cc in
      ap (λ (z : A). z ∷ xs) (one x y all.0 also.0 first) ∙ ap (λ (zs : List A). y ∷ zs) (same_spelled xs ys all.1 also.1 rest)

-- ---- plans

one_step : (forms : Forms) (s t : StepTree) → IsPlanStep forms s → IsPlanStep forms t → step_tree s ≡ step_tree t → s ≡ t
one_step forms s t is also e = same_Some s t (sym (step_again forms s is) ∙ (ap (step_in forms) e ∙ step_again forms t also))

one_plan : (forms : Forms) (p q : List StepTree) → IsPlan forms p → IsPlan forms q → plan_tree p ≡ plan_tree q → p ≡ q
one_plan forms p q is also e =
    let both : array (steps_tree p) ≡ array (steps_tree q) = e in
    let items : steps_tree p ≡ steps_tree q = cc in
    same_spelled step_tree (IsPlanStep forms) (one_step forms) p q is.steps also.steps (same_items (map step_tree p) (map step_tree q) items)

-- ---- tables

one_tables : (v : Version) (tree : Data) (a b : Tables) → SpellsTables v tree a → SpellsTables v tree b → a ≡ b
one_tables First tree a b s t = same_Some a b (sym (tables_reader.again tree a s) ∙ tables_reader.again tree b t)
one_tables Second tree a b s t = same_Some a b (sym (numbered_tables_reader.again tree a s) ∙ numbered_tables_reader.again tree b t)

-- ---- plan files

-- the files have the same tables, and their plans are the same as trees
pub record SayTheSame (f g : PlanFile) : Type 0 where
  pub tables : f.tables ≡ g.tables
  pub plans : map plan_view f.plans.items ≡ map plan_view g.plans.items

pub one_plan_file : (d : Data) (f g : PlanFile) → SpellsPlans d f → SpellsPlans d g → SayTheSame f g
one_plan_file d f g s t =
    let v : Version = version_by f.table_limits in
    let version : version_by g.table_limits ≡ v = one_version d (version_by g.table_limits) v t.version s.version in
    let tree : t.tables.tree ≡ s.tables.tree = same_Some t.tables.tree s.tables.tree (sym t.tables.member ∙ s.tables.member) in
    let here : SpellsTables v s.tables.tree f.tables = spells_tables v s.tables.tree f.tables s.tables.given s.tables.spelled in
    let there : SpellsTables (version_by g.table_limits) t.tables.tree g.tables =
    spells_tables (version_by g.table_limits) t.tables.tree g.tables t.tables.given t.tables.spelled in
    let also : SpellsTables v s.tables.tree g.tables =
    subst (λ (e : Data). SpellsTables v e g.tables) tree (subst (λ (u : Version). SpellsTables u t.tables.tree g.tables) version there) in
    let ps : List (List StepTree) = map plan_view f.plans.items in
    let qs : List (List StepTree) = map plan_view g.plans.items in
    let items : plans_tree ps ≡ plans_tree qs = same_Some (plans_tree ps) (plans_tree qs) (sym s.list ∙ t.list) in
    record {
      tables = one_tables v s.tables.tree f.tables g.tables here also;
      plans = same_spelled plan_tree (IsPlan (forms_of d)) (one_plan (forms_of d)) ps qs s.plans t.plans (same_items (map plan_tree ps) (map plan_tree qs) items);
    }

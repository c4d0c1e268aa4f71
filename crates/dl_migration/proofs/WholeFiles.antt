-- No number of the tree of a plan file is a float.
use Rattle.std.proofs.Common.{◌≡◌, sym, ap, subst, ◌∙◌, inl, inr, ℕ, pos, List, map, Bool, true, false, codes, Option, Some, None, option_and_then, if◌then◌else◌}
use Rattle.std.proofs.Common.{bytes_eq}
use Rattle.std.proofs.lemmas.Option.{same_Some}
use Rattle.serde_json.specs.Data.{Data}
use Rattle.serde_json.specs.Find.{get, as_array}
use Rattle.serde_json.specs.Written.{has_float}
use Rattle.dl_source.specs.Spelling.{whole}
use Rattle.dl_source.proofs.Spelling.{array_of}
use Rattle.dl_documents.specs.Document.{IsOfVersion, is_script, is_known, is_plans_member, is_limit_member, whole_or_largest, GivesLimit, GivesTables}
use Rattle.dl_documents.specs.Document.{SpellsPlans, version_number}
use Rattle.dl_documents.specs.OwnLimits.{TableLimits, version_by}
use Rattle.dl_documents.specs.Steps.{plan_view, plans_tree}
use Rattle.dl_documents.specs.declared.input.PlanFile.{PlanFile}
use Rattle.dl_source.specs.Tables.{Tables}
use Rattle.dl_migration.proofs.SortedTrees.{IsSorted, sorted_get}
use Rattle.dl_migration.proofs.WholeMembers.{whole_object, of_four, of_three, under, whole_number}
use Rattle.dl_migration.proofs.WholePlans.{whole_plans}
use Rattle.dl_migration.proofs.WholeTables.{whole_tables, whole_numbered_tables}

whole_limit : (name : List ℕ) (d e : Data) (n : ℕ) → GivesLimit name d n → get name d ≡ Some e → has_float e ≡ false
whole_limit name d e n gives is = whole_number e (pos n) (sym (ap whole_or_largest is) ∙ gives.number)

-- the number of a version
whole_number_of : (d e : Data) (n : ℕ) → is_script d ≡ false → version_number d ≡ Some (pos n) → get (codes "version") d ≡ Some e → has_float e ≡ false
whole_number_of d e n kind number is =
    let given : option_and_then whole (get (codes "version") d) ≡ Some (pos n) =
    subst (λ (script : Bool). option_and_then whole (get (if script then codes "script" else codes "version") d) ≡ Some (pos n)) kind number in
    whole_number e (pos n) (sym (ap (option_and_then whole) is) ∙ given)

version_whole : (d e : Data) (limited : Option TableLimits) → is_script d ≡ false → IsOfVersion d (version_by limited) → get (codes "version") d ≡ Some e
    → has_float e ≡ false
version_whole d e None kind number is = whole_number_of d e 1 kind number is
version_whole d e (Some limits) kind (inl number) is = whole_number_of d e 2 kind number is
version_whole d e (Some limits) kind (inr number) is = whole_number_of d e 3 kind number.1 is

tables_whole : (d e : Data) (tables : Tables) (limited : Option TableLimits) → IsSorted d → GivesTables d tables limited → get (codes "tables") d ≡ Some e
    → has_float e ≡ false
tables_whole d e tables None sorted t is =
    subst (λ (x : Data). has_float x ≡ false) (same_Some t.tree e (sym t.member ∙ is))
    (whole_tables t.tree tables (sorted_get (codes "tables") d t.tree sorted t.member) t.spelled.0 t.lawful)
tables_whole d e tables (Some limits) sorted t is =
    subst (λ (x : Data). has_float x ≡ false) (same_Some t.tree e (sym t.member ∙ is))
    (whole_numbered_tables t.tree tables t.given (sorted_get (codes "tables") d t.tree sorted t.member) t.spelled t.lawful)

module _ (d : Data) (f : PlanFile) (s : SpellsPlans d f) (sorted : IsSorted d) where
  plans_whole : (e : Data) → get (codes "plans") d ≡ Some e → has_float e ≡ false
  plans_whole e is =
      let plans = map plan_view f.plans.items in
      ap has_float (array_of e (plans_tree plans) (sym (ap (option_and_then as_array) is) ∙ s.list)) ∙ whole_plans d plans s.plans

  limit_whole : (k : List ℕ) (e : Data) → get k d ≡ Some e → is_limit_member k ≡ true → has_float e ≡ false
  limit_whole k e is known =
      of_three {P = has_float e ≡ false} (bytes_eq k (codes "maxBatchSize")) (bytes_eq k (codes "maxCells")) (bytes_eq k (codes "maxCalls")) known
      (λ same. whole_limit (codes "maxBatchSize") d e f.limits.max_batch s.limits.batch (under k (codes "maxBatchSize") d e same is))
      (λ same. whole_limit (codes "maxCells") d e f.limits.max_cells s.limits.cells (under k (codes "maxCells") d e same is))
      (λ same. whole_limit (codes "maxCalls") d e f.limits.max_calls s.limits.calls (under k (codes "maxCalls") d e same is))

  found_whole : (k : List ℕ) (e : Data) → get k d ≡ Some e → is_plans_member k ≡ true → has_float e ≡ false
  found_whole k e is known =
      of_four {P = has_float e ≡ false} (bytes_eq k (codes "version")) (bytes_eq k (codes "tables")) (bytes_eq k (codes "plans")) (is_limit_member k) known
      (λ same. version_whole d e f.table_limits s.kind s.version (under k (codes "version") d e same is))
      (λ same. tables_whole d e f.tables f.table_limits sorted s.tables (under k (codes "tables") d e same is))
      (λ same. plans_whole e (under k (codes "plans") d e same is))
      (limit_whole k e is)

  pub whole_file : has_float d ≡ false
  whole_file =
      whole_object (is_known (is_script d) (version_by f.table_limits)) d sorted s.members
      (λ k e is known. found_whole k e is (subst (λ (script : Bool). is_known script (version_by f.table_limits) k ≡ true) s.kind known))

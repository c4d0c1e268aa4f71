-- A tree that spells a plan file of an earlier version, migrated, spells the same file in the later one.
use Rattle.std.proofs.Common.{◌≡◌, ◌∙◌, sym, ap, refl, inl, inr, ℕ, pos, ◌<◌, ◌≤◌, List, [], length, map, Bool, true, false, codes}
use Rattle.std.proofs.Common.{bytes_eq, is_some, if◌then◌else◌, Option, Some, None, option_and_then, true≢false, arith}
use Rattle.std.proofs.lemmas.Option.{none-some, same_Some}
use Rattle.std.proofs.lemmas.Slice.Eq.{bytes_eq-Decides}
use Rattle.std.specs.List.{AllByRecursion}
use Rattle.serde_json.specs.Data.{Data, null, boolean, number, unsigned, negative, float, string, array, object, Members}
use Rattle.serde_json.specs.Find.{get, as_array, as_integer, as_number, as_object, as_u64}
use Rattle.dl_source.specs.Spelling.{has_only, whole}
use Rattle.dl_documents.specs.Document.{is_script, is_known, is_plans_member, has_only_known, whole_or_largest}
use Rattle.dl_documents.specs.Document.{IsOfVersion, GivesLimit, GivesTables, SpellsPlans, forms_of, version_number}
use Rattle.dl_documents.specs.Document.{IsTextOf}
use Rattle.dl_documents.specs.Faults.{most_bytes}
use Rattle.dl_documents.specs.OwnLimits.{TableLimits, own, version_by}
use Rattle.dl_documents.specs.Steps.{StepTree, IsPlan, plan_view}
use Rattle.dl_documents.specs.declared.input.Input.{Input}
use Rattle.dl_documents.specs.declared.input.Input.TheVariants.{Script, Plans}
use Rattle.dl_documents.specs.declared.input.PlanFile.{PlanFile}
use Rattle.dl_documents.proofs.LaterForms.{plans_in_second, plans_in_third}
use Rattle.dl_documents.proofs.Texts.{passes}
use Rattle.dl_source.specs.Tables.{Tables}
use Rattle.dl_migration.specs.Migrated.{migrated, number_of}
use Rattle.dl_migration.specs.Migration.{IsEarlier, ReadsAs, version_in}
use Rattle.dl_migration.specs.declared.target.Target.{Target}
use Rattle.dl_migration.specs.declared.target.Target.TheVariants.{Second, Third}
use Rattle.dl_migration.specs.LaterVersion.{in_later_version, MigratedIsTheSame, MigratedReadsTheSame}
use Rattle.dl_migration.proofs.MigratedLemmas.{get-migrated, version-migrated, names_all-put}
use Rattle.dl_migration.proofs.UnnumberedTables.{without_numbers, causes_first}

-- ---- members

is_object : (test : List ℕ → Bool) (d : Data) → has_only test d ≡ true → (ms : Members) × (as_object d ≡ Some ms)
is_object test null all = absurd (true≢false (sym all))
is_object test (boolean b) all = absurd (true≢false (sym all))
is_object test (number n) all = absurd (true≢false (sym all))
is_object test (string s) all = absurd (true≢false (sym all))
is_object test (array ds) all = absurd (true≢false (sym all))
is_object test (object ms) all = (ms, refl)

has_only-migrated : (n : ℕ) (test : List ℕ → Bool) (d : Data) → test (codes "version") ≡ true → has_only test d ≡ true → has_only test (migrated n d) ≡ true
has_only-migrated n test null mine all = all
has_only-migrated n test (boolean b) mine all = all
has_only-migrated n test (number x) mine all = all
has_only-migrated n test (string s) mine all = all
has_only-migrated n test (array ds) mine all = all
has_only-migrated n test (object ms) mine all = names_all-put test (codes "version") (number (unsigned n)) ms mine all

-- ---- the number of a version

whole_of : (v : Data) (n : ℕ) → option_and_then as_u64 (as_number v) ≡ Some n → option_and_then as_integer (as_number v) ≡ Some (pos n)
whole_of null n is = absurd (none-some n is)
whole_of (boolean b) n is = absurd (none-some n is)
whole_of (number (unsigned k)) n is = ap (λ (m : ℕ). Some (pos m)) (same_Some k n is)
whole_of (number (negative z)) n is = absurd (none-some n is)
whole_of (number (float x)) n is = absurd (none-some n is)
whole_of (string s) n is = absurd (none-some n is)
whole_of (array ds) n is = absurd (none-some n is)
whole_of (object ms) n is = absurd (none-some n is)

whole_in : (o : Option Data) (n : ℕ) → option_and_then (λ v. option_and_then as_u64 (as_number v)) o ≡ Some n → option_and_then whole o ≡ Some (pos n)
whole_in None n is = absurd (none-some n is)
whole_in (Some v) n is = whole_of v n is

numbered : (d : Data) (n : ℕ) → is_script d ≡ false → option_and_then whole (get (codes "version") d) ≡ Some (pos n) → version_number d ≡ Some (pos n)
numbered d n kind is = ap (λ (b : Bool). option_and_then whole (get (if b then codes "script" else codes "version") d)) kind ∙ is

of_version : (target : Target) (d : Data) (tables : TableLimits) → is_script d ≡ false → version_number d ≡ Some (pos (number_of target))
    → IsOfVersion d (version_by (Some tables))
of_version Second d tables kind is = inl is
of_version Third d tables kind is = inr (kind, is)

-- ---- plans

-- the plans of an earlier version are plans of the target's
later_plans : (target : Target) (d e : Data) (plans : List (List StepTree)) (n : ℕ) → version_number d ≡ Some (pos n) → n < number_of target
    → is_script e ≡ false → version_number e ≡ Some (pos (number_of target)) → AllByRecursion (IsPlan (forms_of d)) plans
    → AllByRecursion (IsPlan (forms_of e)) plans
later_plans Second d e plans n before low kind after are = plans_in_second d e plans n before (omega arith) after are
later_plans Third d e plans n before low kind after are = plans_in_third d e plans n before low kind after are

-- ---- tables

later_tables : (d e : Data) (tables : Tables) (limited : Option TableLimits) → get (codes "tables") e ≡ get (codes "tables") d → GivesTables d tables limited
    → GivesTables e tables (Some (own limited))
later_tables d e tables None stays t = record {
  tree = t.tree;
  member = stays ∙ t.member;
  given = [];
  spelled = without_numbers t.tree tables t.spelled.0;
  lawful = λ f cause. t.lawful f (causes_first t.tree tables t.spelled.0 f cause);
  limits = record { listed = []; numbers = refl; limits = tt; same = λ table. refl };
}
later_tables d e tables (Some limits) stays t = record {
  tree = t.tree;
  member = stays ∙ t.member;
  given = t.given;
  spelled = t.spelled;
  lawful = t.lawful;
  limits = t.limits;
}

-- ---- plan files

module _ (target : Target) (d : Data) (file : PlanFile) (s : SpellsPlans d file) (n : ℕ) (given : version_in d ≡ Some n) (low : n < number_of target) where
  abbrev new : Data
  new = migrated (number_of target) d

  -- each member but the version stays
  stays : (name : List ℕ) → bytes_eq name (codes "version") ≡ false → get name new ≡ get name d
  stays name other = get-migrated (number_of target) name d (λ same. true≢false (sym ((bytes_eq-Decides name (codes "version")).1 same) ∙ other))

  known : has_only is_plans_member d ≡ true
  known = ap (λ (b : Bool). has_only (is_known b (version_by file.table_limits)) d) (sym s.kind) ∙ s.members

  kind : is_script new ≡ false
  kind = ap (λ (o : Option Data). is_some o) (stays (codes "script") refl) ∙ s.kind

  -- the number of the version, before and after
  number_before : version_number d ≡ Some (pos n)
  number_before = numbered d n s.kind (whole_in (get (codes "version") d) n given)

  number_after : version_number new ≡ Some (pos (number_of target))
  number_after =
      let members = is_object is_plans_member d known in
      numbered new (number_of target) kind (ap (λ (o : Option Data). option_and_then whole o) (version-migrated (number_of target) d members.0 members.1))

  plans : AllByRecursion (IsPlan (forms_of new)) (map plan_view file.plans.items)
  plans = later_plans target d new (map plan_view file.plans.items) n number_before low kind number_after s.plans

  members : has_only_known (version_by (Some (own file.table_limits))) new ≡ true
  members =
      ap (λ (b : Bool). has_only (is_known b (version_by (Some (own file.table_limits)))) new) kind
      ∙ has_only-migrated (number_of target) is_plans_member d refl known

  limit : (name : List ℕ) (m : ℕ) → bytes_eq name (codes "version") ≡ false → GivesLimit name d m → GivesLimit name new m
  limit name m other gives = record {
    number = ap (λ (o : Option Data). whole_or_largest o) (stays name other) ∙ gives.number;
    limit = gives.limit;
  }

  same_file : SpellsPlans new (in_later_version file)
  same_file = record {
    kind = kind;
    version = of_version target new (own file.table_limits) kind number_after;
    members = members;
    list = ap (λ (o : Option Data). option_and_then as_array o) (stays (codes "plans") refl) ∙ s.list;
    count = s.count;
    plans = plans;
    tables = later_tables d new file.tables file.table_limits (stays (codes "tables") refl) s.tables;
    limits = record {
      batch = limit (codes "maxBatchSize") file.limits.max_batch refl s.limits.batch;
      cells = limit (codes "maxCells") file.limits.max_cells refl s.limits.cells;
      calls = limit (codes "maxCalls") file.limits.max_calls refl s.limits.calls;
    };
  }

pub migrated_is_the_same : MigratedIsTheSame
migrated_is_the_same target d file s earlier = same_file target d file s earlier.0 earlier.1 earlier.2

-- ---- texts

reads_again : (target : Target) (bytes text : List ℕ) (d : Data) (said : Input) → ReadsAs bytes d said → IsEarlier target d said
    → IsTextOf text (migrated (number_of target) d) → length text ≤ most_bytes
    → (file : PlanFile) × ReadsAs bytes d (Plans file) × ReadsAs text (migrated (number_of target) d) (Plans (in_later_version file))
reads_again target bytes text d (Script s) reads earlier is_text few = absurd earlier
reads_again target bytes text d (Plans file) reads earlier is_text few =
    let later : SpellsPlans (migrated (number_of target) d) (in_later_version file) = migrated_is_the_same target d file reads.spelled earlier in (
      file,
      reads,
      record {
        text = is_text;
        spelled = later;
        passes = passes (λ e. e) text (migrated (number_of target) d) (Plans (in_later_version file)) few is_text later;
      },
    )

pub migrated_reads_the_same : MigratedReadsTheSame
migrated_reads_the_same target bytes text is few =
    let found = reads_again target bytes text is.tree is.said is.reads is.earlier is.again few in
    (is.tree, found.0, found.1, found.2)

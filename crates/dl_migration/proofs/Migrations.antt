-- From what was read and written to what migrating answers.
use Rattle.std.proofs.Common.{◌≡◌, ◌∙◌, ◌↔◌, refl, sym, subst, ℕ, ◌<◌, ◌≤◌, List, Bool, false, IsTrue, Some, None, IsUtf8}
use Rattle.std.proofs.lemmas.Option.{none-some, same_Some}
use Rattle.serde_json.specs.Data.{Data, depth}
use Rattle.serde_json.specs.Read.{read, max_depth}
use Rattle.serde_json.specs.Written.{compact_text, has_float}
use Rattle.serde_json.proofs.Nesting.{depth-read}
use Rattle.dl_documents.specs.Document.{IsTextOf, Spells}
use Rattle.dl_documents.specs.declared.input.Input.{Input}
use Rattle.dl_documents.specs.declared.input.Input.TheVariants as input
use Rattle.dl_migration.specs.Migrated.{migrated, number_of}
use Rattle.dl_migration.specs.Migration.{ReadsAs, IsEarlier, IsMigrated, IsOther, IsUnmigrated, late, version_in}
use Rattle.dl_migration.specs.declared.target.Target.{Target}
use Rattle.dl_migration.specs.declared.target.Target.TheVariants.{Second, Third}
use Rattle.dl_migration.proofs.MigratedLemmas.{floats-migrated, depth-migrated}
use Rattle.dl_migration.proofs.SortedTrees.{sorted_read}
use Rattle.dl_migration.proofs.WholeFiles.{whole_file}

whole : (target : Target) (bytes : List ℕ) (d : Data) (i : Input) → IsTextOf bytes d → Spells d i → IsEarlier target d i → has_float d ≡ false
whole target bytes d (input.Script s) is spelled earlier = absurd earlier
whole target bytes d (input.Plans f) is spelled earlier = whole_file d f spelled (sorted_read bytes d is.read)

-- the text is that of the tree in the target's version
pub is_migrated : (target : Target) (bytes text : List ℕ) (d : Data) (i : Input) → ReadsAs bytes d i → IsEarlier target d i → IsUtf8 text
    → (has_float (migrated (number_of target) d) ≡ false → text ≡ compact_text (migrated (number_of target) d))
    → (depth (migrated (number_of target) d) ≤ max_depth → read text ≡ Some (migrated (number_of target) d)) → IsMigrated target bytes text
is_migrated target bytes text d i reads earlier utf8 compact again = record {
  tree = d;
  said = i;
  reads = reads;
  earlier = earlier;
  compact = compact (floats-migrated (number_of target) d (whole target bytes d i reads.text reads.spelled earlier));
  again = record { utf8 = utf8; read = again (depth-migrated (number_of target) d (depth-read bytes d reads.text.read)) };
}

-- its number was compared
pub earlier_if : (target : Target) (d : Data) (n : ℕ) (b : Bool) → version_in d ≡ Some n → (IsTrue b ↔ (n < number_of target))
    → IsTrue b ↔ ((m : ℕ) × (version_in d ≡ Some m) × (m < number_of target))
earlier_if target d n b is below = (
  λ t. (n, is, below.0 t),
  λ found. below.1 (subst (λ m. m < number_of target) (same_Some found.0 n (sym found.1 ∙ is)) found.2),
)

-- it has no number
pub never_earlier : (target : Target) (d : Data) → version_in d ≡ None → ((m : ℕ) × (version_in d ≡ Some m) × (m < number_of target)) → ⊥
never_earlier target d is found = none-some found.0 (sym is ∙ found.1)

-- it isn't of an earlier version
pub is_late : (target : Target) (bytes : List ℕ) → IsOther target bytes → IsUnmigrated target bytes (late target)
is_late Second bytes other = (refl, other)
is_late Third bytes other = (refl, other)

-- Which fault you get instead of tables.
use Rattle.std.specs.Prelude.{◌≡◌, ◌⊎◌, ℕ, ◌<◌, ◌&&◌, ◌||◌, List, length, Bool, true, false, not, nat_lt, nat_le}
use Rattle.std.specs.List.{list_any}
use Rattle.serde_json.specs.Data.{Data}
use Rattle.serde_json.specs.Written.{has_float}
use Rattle.dl_values.specs.Key.{table_bytes, id_bytes}
use Rattle.dl_values.specs.TableLimits.{repeats}
use Rattle.dl_source.specs.declared.tables.Finding.{Finding}
use Rattle.dl_source.specs.declared.tables.Finding.TheVariants.{Row, Error, Break}
use Rattle.dl_source.specs.declared.fault.TableFault.{TableFault}
use Rattle.dl_source.specs.declared.fault.TableFault.TheVariants.{Shape, BadKey, TextTooLong, NotWhole, DuplicateTable, DuplicateKey, OutOfMemory}
use Rattle.dl_source.specs.Tables.{Table, Tables}

-- ---- what a finding may not have

-- the most bytes of the text of an error or a break
abbrev pub text_bytes : ℕ
text_bytes = 1024

abbrev pub is_sized : ℕ → List ℕ → Bool
is_sized most text = nat_le 1 (length text) && nat_le (length text) most

abbrev pub has_bad_id : List ℕ × Finding → Bool
has_bad_id e = not (is_sized id_bytes e.0)

abbrev pub is_long : Finding → Bool
is_long (Row v) = false
is_long (Error t) = nat_lt text_bytes (length t)
is_long (Break t) = nat_lt text_bytes (length t)

abbrev pub is_not_whole : Finding → Bool
is_not_whole (Row v) = has_float v
is_not_whole (Error t) = false
is_not_whole (Break t) = false

-- ---- what tables may not have

abbrev pub has_bad_name : List ℕ × Table → Bool
has_bad_name t = not (is_sized table_bytes t.0)

abbrev pub has_bad_key : Tables → Bool
has_bad_key tables = list_any (λ t. has_bad_name t || list_any has_bad_id t.1) tables

abbrev pub has_long_text : Tables → Bool
has_long_text tables = list_any (λ t. list_any (λ e. is_long e.1) t.1) tables

abbrev pub has_other_number : Tables → Bool
has_other_number tables = list_any (λ t. list_any (λ e. is_not_whole e.1) t.1) tables

abbrev pub has_repeated_key : Tables → Bool
has_repeated_key tables = list_any (λ t. repeats t.1) tables

-- ---- faults, by a relation `Spells` that says which tables a tree spells

-- the tree spells tables for which the test is true
abbrev pub Has : (Data → Tables → Type 0) → (Tables → Bool) → Data → Type 0
Has Spells test d = (tables : Tables) × Spells d tables × (test tables ≡ true)

-- what each fault comes from
abbrev pub Causes : (Data → Tables → Type 0) → Data → TableFault → Type 0
Causes Spells d Shape = (tables : Tables) → Spells d tables → ⊥
Causes Spells d BadKey = Has Spells has_bad_key d
Causes Spells d TextTooLong = Has Spells has_long_text d
Causes Spells d NotWhole = Has Spells has_other_number d
Causes Spells d DuplicateTable = Has Spells repeats d
Causes Spells d DuplicateKey = Has Spells has_repeated_key d
Causes Spells d OutOfMemory = ⊥

-- the order of the faults
abbrev pub number : TableFault → ℕ
number Shape = 1
number BadKey = 2
number TextTooLong = 3
number NotWhole = 4
number DuplicateTable = 5
number DuplicateKey = 6
number OutOfMemory = 7

-- the tree gives cause for this fault, and for none that comes before it
pub record IsLeast (Spells : Data → Tables → Type 0) (d : Data) (f : TableFault) : Type 0 where
  pub cause : Causes Spells d f
  pub least : (g : TableFault) → number g < number f → Causes Spells d g → ⊥

-- Memory may run out before the cause is found.
abbrev pub RefusedFor : (Data → Tables → Type 0) → Data → TableFault → Type 0
RefusedFor Spells d f = (f ≡ OutOfMemory) ⊎ IsLeast Spells d f

-- The tables that a tree spells, found by looking into it; and what the reading functions answer.
use Rattle.std.specs.Prelude.{◌≡◌, ℕ, ℤ, List, [], ◌∷◌, ◌++◌, codes, Bool, Option, Some, None, Result, Ok, Err, option_map, option_and_then}
use Rattle.std.specs.Prelude.{if◌then◌else◌, ⊤}
use Rattle.std.specs.Option.{option_or}
use Rattle.serde_json.specs.Data.{Data, Items, no_items, item}
use Rattle.serde_json.specs.Find.{get, as_str, as_array}
use Rattle.dl_source.specs.declared.tables.Finding.{Finding}
use Rattle.dl_source.specs.declared.fault.TableFault.{TableFault}
use Rattle.dl_source.specs.declared.fault.TableFault.TheVariants.{Shape, BadKey, TextTooLong, NotWhole, DuplicateTable, DuplicateKey, OutOfMemory}
use Rattle.dl_source.specs.declared.table_reader.Version.{Version}
use Rattle.dl_source.specs.declared.table_reader.Version.TheVariants.{First, Second}
use Rattle.dl_source.specs.Tables.{Table, Tables}
use Rattle.dl_source.specs.NumberedTables.{NumberedTable, numbered, tables_of}
use Rattle.dl_values.specs.TableLimits.{repeats}
use Rattle.dl_source.specs.Faults.{has_bad_key, has_long_text, has_other_number, has_repeated_key}
use Rattle.dl_source.specs.Spelling.{row_of, error_of, break_text_of, is_table_member, is_numbered_member, has_only, whole}

-- each item read, if each can be read
abbrev pub each_in : {X : Type 0} → (Data → Option X) → Items → Option (List X)
each_in read no_items = Some []
each_in read (item d ds) = option_and_then (λ x. option_map (λ xs. x ∷ xs) (each_in read ds)) (read d)

abbrev pub list_in : {X : Type 0} → (Data → Option X) → Data → Option (List X)
list_in read d = option_and_then (each_in read) (as_array d)

abbrev pub member_in : {X : Type 0} → (Data → Option X) → Option Data → Option (List X)
member_in read m = option_and_then (list_in read) m

abbrev pub optional_in : {X : Type 0} → (Data → Option X) → Option Data → Option (List X)
optional_in read None = Some []
optional_in read (Some d) = list_in read d

abbrev pub pair_in : (Data → Option Finding) → Items → Option (List ℕ × Finding)
pair_in finding_of no_items = None
pair_in finding_of (item k no_items) = None
pair_in finding_of (item k (item v no_items)) = option_and_then (λ id. option_map (λ e. (id, e)) (finding_of v)) (as_str k)
pair_in finding_of (item k (item v (item w ds))) = None

abbrev pub finding_in : (Data → Option Finding) → Data → Option (List ℕ × Finding)
finding_in finding_of d = option_and_then (pair_in finding_of) (as_array d)

-- the findings that the members `rows`, `errors` and `breaks` list, in this order
abbrev pub findings_given : Option Data → Option Data → Option Data → Option Table
findings_given rows errors breaks =
    option_and_then (λ rs. option_and_then (λ es. option_map (λ bs. rs ++ es ++ bs) (optional_in (finding_in break_text_of) breaks))
    (optional_in (finding_in error_of) errors))
    (member_in (finding_in row_of) rows)

-- the findings of an object's members, in their order
abbrev pub findings_in : Data → Option Table
findings_in d = findings_given (get (codes "rows") d) (get (codes "errors") d) (get (codes "breaks") d)

-- the number that a member is, and none where it is absent
abbrev pub number_in : Option Data → Option (Option ℤ)
number_in None = Some None
number_in (Some d) = option_map Some (whole d)

-- ---- by the versions of the formats

-- the names of a table's members
abbrev pub is_member_of : Version → List ℕ → Bool
is_member_of First = is_table_member
is_member_of Second = is_numbered_member

-- the number that a table's member gives, of which the first version knows none
abbrev pub number_given : Version → Option Data → Option (Option ℤ)
number_given First m = Some None
number_given Second m = number_in m

abbrev pub number_by : Version → Data → Option (Option ℤ)
number_by version d = number_given version (get (codes "maxBatchSize") d)

abbrev pub numbered_in : Version → Data → Option NumberedTable
numbered_in version d =
    if has_only (is_member_of version) d
    then option_and_then (λ name. option_and_then (λ number. option_map (numbered name number) (findings_in d)) (number_by version d))
    (option_and_then as_str (get (codes "name") d)) else None

-- the tables that a tree lists, with their numbers and without
abbrev pub listed_in : Version → Data → Option (List NumberedTable)
listed_in version d = list_in (numbered_in version) d

abbrev pub tables_in : Version → Data → Option Tables
tables_in version d = option_map tables_of (listed_in version d)

-- ---- what the reading functions answer

-- At `Ok` the value was read. The only fault beside a failed allocation is that it was not.
abbrev pub Reads : {T X : Type 0} → Result T TableFault → (T → X) → Option X → Type 0
Reads (Ok x) seen read = read ≡ Some (seen x)
Reads (Err Shape) seen read = read ≡ None
Reads (Err BadKey) seen read = ⊥
Reads (Err TextTooLong) seen read = ⊥
Reads (Err NotWhole) seen read = ⊥
Reads (Err DuplicateTable) seen read = ⊥
Reads (Err DuplicateKey) seen read = ⊥
Reads (Err OutOfMemory) seen read = ⊤

-- the least of the faults that are not about repetition
abbrev pub content_fault : Tables → Option TableFault
content_fault tables =
    if has_bad_key tables then Some BadKey
    else (if has_long_text tables then Some TextTooLong else (if has_other_number tables then Some NotWhole else None))

abbrev pub repetition_fault : Tables → Option TableFault
repetition_fault tables = if repeats tables then Some DuplicateTable else (if has_repeated_key tables then Some DuplicateKey else None)

-- the least of all faults that tables have
abbrev pub fault_of : Tables → Option TableFault
fault_of tables = option_or (content_fault tables) (repetition_fault tables)

-- what was read, after what was there
abbrev pub after : {X : Type 0} → List X → Option (List X) → Option (List X)
after front read = option_map (λ xs. front ++ xs) read

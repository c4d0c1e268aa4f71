-- The numbers that a document gives tables: whose they are, and that it gives no others.
use Rattle.std.proofs.Common.{◌≡◌, ◌∙◌, codes, refl, sym, ap, subst, ℕ, ℤ, List, [], ◌∷◌, Bool, true, false, ◌||◌, bytes_eq, Option, Some, None, option_map}
use Rattle.std.proofs.Common.{option_and_then, if◌then◌else◌, true≢false}
use Rattle.std.proofs.lemmas.Bool.{false_from_ne_true, not-false, or_from, or_parts}
use Rattle.std.proofs.lemmas.Option.{same_Some}
use Rattle.std.specs.List.{AllByRecursion, list_any, cons_option}
use Rattle.std.specs.Option.{option_zip}
use Rattle.serde_json.specs.Data.{Data, Items, no_items, item}
use Rattle.serde_json.specs.Find.{get, as_array, as_str}
use Rattle.dl_values.specs.Key.{table_bytes}
use Rattle.dl_values.specs.TableLimits.{lists, repeats}
use Rattle.dl_source.specs.Faults.{is_sized, has_bad_name, has_bad_id, has_bad_key}
use Rattle.dl_source.specs.NumberedTables.{NumberedTable, tables_of, numbers_of}
use Rattle.dl_source.specs.Spelling.{SpellsNumbered, whole}
use Rattle.dl_source.specs.Tables.{Tables}
use Rattle.dl_source.specs.declared.fault.TableFault.TheVariants.{BadKey, DuplicateTable}
use Rattle.dl_source.specs.declared.table_number.TableNumber.{TableNumber}
use Rattle.dl_source.proofs.Spelling.{listed_reader}
use Rattle.dl_terms.proofs.Options.{from_and_then, from_both}
use Rattle.dl_documents.specs.Document.{IsOfVersion, is_script}
use Rattle.dl_documents.specs.Faults.{GivesNumbers, InScript, InTables}
use Rattle.dl_documents.specs.Inside.OwnLimits.{AreOwnNumbers}
use Rattle.dl_documents.specs.Inside.PlanFiles.{AreTables}
use Rattle.dl_documents.specs.Reading.{two_in}
use Rattle.dl_documents.specs.TableNumbers.{numbered, named, AreNamed, number_of, with_number, table_number_in, numbers_listed, table_numbers_in, once_each}
use Rattle.dl_documents.specs.TableNumbers.{numbers_or_none, script_numbers}
use Rattle.dl_documents.specs.Tables.{SpellsTables, SpellsNumbers}
use Rattle.dl_documents.specs.Terms.{IsTableName}
use Rattle.dl_documents.specs.declared.head.Version.{Version}
use Rattle.dl_documents.specs.declared.head.Version.TheVariants.{First, Second}
use Rattle.dl_documents.proofs.Findings.{sized, kept, passed}
use Rattle.dl_documents.proofs.Versions.{one_version}

-- ---- the list of a script

number_named : (d : Data) (n : TableNumber) → table_number_in d ≡ Some n → IsTableName n.table
number_named d n h =
    let items = from_and_then with_number (two_in d) n h in
    let pair : Data × Data = items.0 in
    let parts = from_and_then number_of (option_zip (as_str pair.0) (whole pair.1)) n items.2 in
    let p : List ℕ × ℤ = parts.0 in
    let test = kept (is_sized table_bytes p.0) (numbered p.0 p.1) n parts.2 in
    let size = sized table_bytes p.0 test.0 in
    subst (λ (m : TableNumber). IsTableName m.table) test.1 (record { some = size.0; short = size.1 })

all_named : (ds : Items) (ns : List TableNumber) → numbers_listed ds ≡ Some ns → AllByRecursion (λ n. IsTableName n.table) ns
all_named no_items ns h = subst (AllByRecursion (λ (n : TableNumber). IsTableName n.table)) (same_Some [] ns h) tt
all_named (item d ds) ns h =
    let p = from_both (table_number_in d) (numbers_listed ds) ns h in
    subst (AllByRecursion (λ (n : TableNumber). IsTableName n.table)) (sym p.4) (number_named d p.0 p.2, all_named ds p.1 p.3)

none_named : AreNamed []
none_named = record { names = tt; once = refl }

listed_named : (m : Option Data) (ns : List TableNumber) → numbers_or_none m ≡ Some ns → AreNamed ns
listed_named None ns h = subst AreNamed (same_Some [] ns h) none_named
listed_named (Some d) ns h =
    let read = from_and_then once_each (table_numbers_in d) ns h in
    let found : List TableNumber = read.0 in
    let items = from_and_then numbers_listed (as_array d) found read.1 in
    let test = passed (repeats (named found)) found ns read.2 in
    subst AreNamed test.1 (record { names = all_named items.0 found items.2; once = test.0 })

-- the numbers of a script are of named tables
pub script_named : (d : Data) (v : Version) (ns : List TableNumber) → script_numbers v d ≡ Some ns → AreOwnNumbers v ns
script_named d First ns h = sym (same_Some [] ns h)
script_named d Second ns h = listed_named (get (codes "tableLimits") d) ns h

-- ---- what is read of the member

pub unread : (m : Option Data) (list : Data) → Some list ≡ m → None ≡ table_numbers_in list → None ≡ numbers_or_none m
unread m list at none = ap (option_and_then once_each) none ∙ ap numbers_or_none at

-- a table stands twice
pub twice : (m : Option Data) (list : Data) (ns : List TableNumber) → Some list ≡ m → Some ns ≡ table_numbers_in list → repeats (named ns) ≡ true
    → None ≡ numbers_or_none m
twice m list ns at read again =
    ap (λ (b : Bool). if b then None else Some ns) (sym again) ∙ (ap (option_and_then once_each) read ∙ ap numbers_or_none at)

pub once : (m : Option Data) (list : Data) (ns : List TableNumber) → Some list ≡ m → Some ns ≡ table_numbers_in list → repeats (named ns) ≡ false
    → Some ns ≡ numbers_or_none m
once m list ns at read new = ap (λ (b : Bool). if b then None else Some ns) (sym new) ∙ (ap (option_and_then once_each) read ∙ ap numbers_or_none at)

-- ---- tables

-- tables with numbers are tables
pub spells_tables : (v : Version) (tree : Data) (tables : Tables) (ns : List TableNumber) → SpellsNumbers v tree tables ns → SpellsTables v tree tables
spells_tables First tree tables ns s = s.0
spells_tables Second tree tables ns s = (ns, s)

name_more : (name : List ℕ) (number : Option ℤ) (rest : List TableNumber) → IsTableName name → AllByRecursion (λ n. IsTableName n.table) rest
    → AllByRecursion (λ n. IsTableName n.table) (cons_option (option_map (numbered name) number) rest)
name_more name None rest is all = all
name_more name (Some z) rest is all = (is, all)

table_name : (t : NumberedTable) → has_bad_name (t.name, t.findings) ≡ false → IsTableName t.name
table_name t h = let p = sized table_bytes t.name (not-false (is_sized table_bytes t.name) h) in record { some = p.0; short = p.1 }

numbers_named : (ts : List NumberedTable) → has_bad_key (tables_of ts) ≡ false → AllByRecursion (λ n. IsTableName n.table) (numbers_of ts)
numbers_named [] h = tt
numbers_named (t ∷ ts) h =
    let p = or_parts (has_bad_name (t.name, t.findings) || list_any has_bad_id t.findings) (has_bad_key (tables_of ts)) h in
    let q = or_parts (has_bad_name (t.name, t.findings)) (list_any has_bad_id t.findings) p.0 in
    name_more t.name t.number (numbers_of ts) (table_name t q.0) (numbers_named ts p.1)

list_more : (name own : List ℕ) (number : Option ℤ) (rest : List TableNumber) → bytes_eq name own ≡ false → lists name (named rest) ≡ false
    → lists name (named (cons_option (option_map (numbered own) number) rest)) ≡ false
list_more name own None rest a b = b
list_more name own (Some z) rest a b = or_from (bytes_eq name own) (lists name (named rest)) a b

not_listed : (name : List ℕ) (ts : List NumberedTable) → lists name (tables_of ts) ≡ false → lists name (named (numbers_of ts)) ≡ false
not_listed name [] h = refl
not_listed name (t ∷ ts) h =
    let p = or_parts (bytes_eq name t.name) (lists name (tables_of ts)) h in
    list_more name t.name t.number (numbers_of ts) p.0 (not_listed name ts p.1)

once_more : (name : List ℕ) (number : Option ℤ) (rest : List TableNumber) → lists name (named rest) ≡ false → repeats (named rest) ≡ false
    → repeats (named (cons_option (option_map (numbered name) number) rest)) ≡ false
once_more name None rest a b = b
once_more name (Some z) rest a b = or_from (lists name (named rest)) (repeats (named rest)) a b

numbers_once : (ts : List NumberedTable) → repeats (tables_of ts) ≡ false → repeats (named (numbers_of ts)) ≡ false
numbers_once [] h = refl
numbers_once (t ∷ ts) h =
    let p = or_parts (lists t.name (tables_of ts)) (repeats (tables_of ts)) h in
    once_more t.name t.number (numbers_of ts) (not_listed t.name ts p.0) (numbers_once ts p.1)

-- the numbers of tables of which nothing is refused are of named tables
pub tables_named : (v : Version) (tree : Data) (tables : Tables) (ns : List TableNumber) → AreTables v tree tables ns → AreOwnNumbers v ns
tables_named First tree tables ns are = are.spelled.1
tables_named Second tree tables ns are =
    let s : SpellsNumbered tree tables ns = are.spelled in
    let keys : has_bad_key tables ≡ false = false_from_ne_true (has_bad_key tables) (λ e. are.lawful BadKey (tables, (ns, s), e)) in
    let names : repeats tables ≡ false = false_from_ne_true (repeats tables) (λ e. are.lawful DuplicateTable (tables, (ns, s), e)) in
    subst AreNamed (sym s.numbers_are) (record {
      names = numbers_named s.listed (ap has_bad_key (sym s.tables_are) ∙ keys);
      once = numbers_once s.listed (ap (λ (ts : Tables). repeats ts) (sym s.tables_are) ∙ names);
    })

-- ---- there are no others

-- a tree gives tables one list of numbers
pub one_list : (v : Version) (tree : Data) (tables others : Tables) (ns ms : List TableNumber) → SpellsNumbers v tree tables ns
    → SpellsNumbers v tree others ms → ms ≡ ns
one_list First tree tables others ns ms s t = t.1 ∙ sym s.1
one_list Second tree tables others ns ms s t =
    let same : t.listed ≡ s.listed =
    same_Some t.listed s.listed (sym (listed_reader.again tree t.listed t.list) ∙ listed_reader.again tree s.listed s.list) in
    t.numbers_are ∙ (ap numbers_of same ∙ sym s.numbers_are)

-- the document gives tables no other numbers
abbrev pub GivesOnly : Data → List TableNumber → Type 0
GivesOnly d ns = (ms : List TableNumber) → GivesNumbers d ms → ms ≡ ns

pub script_only : (d : Data) (v : Version) (ns : List TableNumber) → is_script d ≡ true → IsOfVersion d v → script_numbers v d ≡ Some ns → GivesOnly d ns
script_only d v ns kind is given ms (InScript w k same e) =
    same_Some ms ns (sym e ∙ (ap (λ (u : Version). script_numbers u d) (one_version d w v same is) ∙ given))
script_only d v ns kind is given ms (InTables w tree tables k same member s) = absurd (true≢false (sym kind ∙ k))

pub tables_only : (d : Data) (v : Version) (tree : Data) (tables : Tables) (ns : List TableNumber) → is_script d ≡ false → IsOfVersion d v
    → get (codes "tables") d ≡ Some tree → SpellsNumbers v tree tables ns → GivesOnly d ns
tables_only d v tree tables ns kind is member s ms (InScript w k same e) = absurd (true≢false (sym k ∙ kind))
tables_only d v tree tables ns kind is member s ms (InTables w other others k same there t) =
    let one : other ≡ tree = same_Some other tree (sym there ∙ member) in
    let here : SpellsNumbers v tree others ms =
    subst (λ (e : Data). SpellsNumbers v e others ms) one (subst (λ (u : Version). SpellsNumbers u other others ms) (one_version d w v same is) t) in
    one_list v tree tables others ns ms s here

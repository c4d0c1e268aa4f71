-- A tree is read as the tables that it spells, and as no others.
use Rattle.std.proofs.Common.{◌≡◌, ℕ, ℤ, List, [], ◌∷◌, ◌++◌, Bool, true, false, codes, Option, Some, None, option_map, option_and_then, if◌then◌else◌, map}
use Rattle.std.proofs.Common.{ap, sym, ◌∙◌, subst, refl, inl, inr}
use Rattle.serde_json.specs.Data.{Data, null, boolean, number, string, array, object, Items, no_items, item}
use Rattle.serde_json.specs.Find.{get, as_str, as_array}
use Rattle.dl_source.specs.declared.tables.Finding.{Finding}
use Rattle.dl_source.specs.declared.table_reader.Version.{Version}
use Rattle.dl_source.specs.declared.table_reader.Version.TheVariants.{First, Second}
use Rattle.dl_source.specs.Tables.{Table, Tables}
use Rattle.dl_source.specs.NumberedTables.{NumberedTable, numbered, table_of, tables_of, numbers_of}
use Rattle.dl_source.specs.Spelling.{SpellsEach, SpellsList, SpellsMember, SpellsOptional, SpellsFinding, SpellsTable, Spells, row_of, error_of, break_text_of}
use Rattle.dl_source.specs.Spelling.{is_table_member, has_only, whole, SpellsNumber, SpellsNumberedTable, SpellsWithNumbers}
use Rattle.dl_source.specs.Inside.Reading.{each_in, list_in, member_in, optional_in, pair_in, finding_in, findings_in, number_in}
use Rattle.dl_source.specs.Inside.Reading.{is_member_of, number_by, numbered_in, listed_in, tables_in}

-- ---- steps that may find nothing

module _ {A B : Type 0} where
  pub and_then_some : (f : A → Option B) (o : Option A) (y : B) → option_and_then f o ≡ Some y → (x : A) × (o ≡ Some x) × (f x ≡ Some y)
  and_then_some f None y h = cc
  and_then_some f (Some x) y h = (x, refl, h)

  pub map_some : (f : A → B) (o : Option A) (y : B) → option_map f o ≡ Some y → (x : A) × (o ≡ Some x) × (f x ≡ y)
  map_some f None y h = cc
  map_some f (Some x) y h = (x, refl, cc)

pub same_some : {A : Type 0} (x y : A) → Some x ≡ Some y → x ≡ y
same_some x y h = cc

pub if_some : {A : Type 0} (b : Bool) (o : Option A) (x : A) → (if b then o else None) ≡ Some x → (b ≡ true) × (o ≡ Some x)
if_some true o x h = (refl, h)
if_some false o x h = cc

pub array_of : (d : Data) (ds : Items) → as_array d ≡ Some ds → d ≡ array ds
array_of null ds h = cc
array_of (boolean b) ds h = cc
array_of (number n) ds h = cc
array_of (string s) ds h = cc
array_of (array es) ds h = ap array (same_some es ds h)
array_of (object ms) ds h = cc

pub string_of : (d : Data) (s : List ℕ) → as_str d ≡ Some s → d ≡ string s
string_of null s h = cc
string_of (boolean b) s h = cc
string_of (number n) s h = cc
string_of (string t) s h = ap string (same_some t s h)
string_of (array es) s h = cc
string_of (object ms) s h = cc

-- ---- a function that reads what a relation spells

pub record IsReader {X : Type 0} (read : Data → Option X) (S : Data → X → Type 0) : Type 0 where
  pub found : (d : Data) (x : X) → read d ≡ Some x → S d x
  pub again : (d : Data) (x : X) → S d x → read d ≡ Some x

-- the same reading, of a relation that says the same
pub alike_reader : {X : Type 0} (read : Data → Option X) (S T : Data → X → Type 0) → IsReader read S → ((d : Data) (x : X) → S d x → T d x)
    → ((d : Data) (x : X) → T d x → S d x) → IsReader read T
alike_reader read S T r there back = record { found = λ d x h. there d x (r.found d x h); again = λ d x s. r.again d x (back d x s) }

-- what a function gives of what is read
pub mapped_reader : {X Y : Type 0} (f : X → Y) (read : Data → Option X) (S : Data → X → Type 0) → IsReader read S
    → IsReader (λ d. option_map f (read d)) (λ d y. (x : X) × S d x × (y ≡ f x))
mapped_reader f read S r = record {
  found = λ d y h. let p = map_some f (read d) y h in (p.0, r.found d p.0 p.1, sym p.2);
  again = λ d y s. ap (option_map f) (r.again d s.0 s.1) ∙ ap Some (sym s.2);
}

module _ {X : Type 0} (read : Data → Option X) (S : Data → X → Type 0) (r : IsReader read S) where
  pub each_found : (ds : Items) (xs : List X) → each_in read ds ≡ Some xs → SpellsEach S ds xs
  each_found no_items xs h = subst (SpellsEach S no_items) (same_some [] xs h) tt
  each_found (item d ds) xs h =
      let first = and_then_some (λ x. option_map (λ ys. x ∷ ys) (each_in read ds)) (read d) xs h in
      let rest = map_some (λ ys. first.0 ∷ ys) (each_in read ds) xs first.2 in
      subst (SpellsEach S (item d ds)) rest.2 (r.found d first.0 first.1, each_found ds rest.0 rest.1)

  pub each_again : (ds : Items) (xs : List X) → SpellsEach S ds xs → each_in read ds ≡ Some xs
  each_again no_items [] s = refl
  each_again no_items (x ∷ xs) s = absurd s
  each_again (item d ds) [] s = absurd s
  each_again (item d ds) (x ∷ xs) s =
      ap (option_and_then (λ y. option_map (λ ys. y ∷ ys) (each_in read ds))) (r.again d x s.0) ∙ ap (option_map (λ ys. x ∷ ys)) (each_again ds xs s.1)

  pub list_reader : IsReader (list_in read) (SpellsList S)
  list_reader = record {
    found = λ d xs h. let items = and_then_some (each_in read) (as_array d) xs h in (items.0, array_of d items.0 items.1, each_found items.0 xs items.2);
    again = λ d xs s. ap (list_in read) s.1 ∙ each_again s.0 xs s.2;
  }

  pub member_found : (m : Option Data) (xs : List X) → member_in read m ≡ Some xs → SpellsMember S m xs
  member_found m xs h = let list = and_then_some (list_in read) m xs h in (list.0, list.1, list_reader.found list.0 xs list.2)

  pub member_again : (m : Option Data) (xs : List X) → SpellsMember S m xs → member_in read m ≡ Some xs
  member_again m xs s = ap (member_in read) s.1 ∙ list_reader.again s.0 xs s.2

  pub optional_found : (m : Option Data) (xs : List X) → optional_in read m ≡ Some xs → SpellsOptional S m xs
  optional_found None xs h = inl (refl, sym (same_some [] xs h))
  optional_found (Some d) xs h = inr (d, refl, list_reader.found d xs h)

  pub optional_again : (m : Option Data) (xs : List X) → SpellsOptional S m xs → optional_in read m ≡ Some xs
  optional_again m xs (inl s) = ap (optional_in read) s.0 ∙ ap Some (sym s.1)
  optional_again m xs (inr s) = ap (optional_in read) s.1 ∙ list_reader.again s.0 xs s.2

-- ---- findings

pub pair_found : (finding_of : Data → Option Finding) (ds : Items) (e : List ℕ × Finding) → pair_in finding_of ds ≡ Some e
    → (v : Data) × (ds ≡ item (string e.0) (item v no_items)) × (finding_of v ≡ Some e.1)
pair_found finding_of no_items e h = cc
pair_found finding_of (item k no_items) e h = cc
pair_found finding_of (item k (item v no_items)) e h =
    let id = and_then_some (λ n. option_map (λ x. (n, x)) (finding_of v)) (as_str k) e h in
    let finding = map_some (λ x. (id.0, x)) (finding_of v) e id.2 in
    (v, ap (λ d. item d (item v no_items)) (string_of k id.0 id.1 ∙ ap (λ x. string x.0) finding.2), finding.1 ∙ ap (λ x. Some x.1) finding.2)
pair_found finding_of (item k (item v (item w ds))) e h = cc

pub finding_reader : (finding_of : Data → Option Finding) → IsReader (finding_in finding_of) (SpellsFinding finding_of)
finding_reader finding_of = record {
  found = λ d e h.
      let items = and_then_some (pair_in finding_of) (as_array d) e h in
      let parts = pair_found finding_of items.0 e items.2 in
      (parts.0, array_of d items.0 items.1 ∙ ap array parts.1, parts.2);
  again = λ d e s. ap (finding_in finding_of) s.1 ∙ ap (option_map (λ x. (e.0, x))) s.2;
}

-- ---- numbers

number_found : (m : Option Data) (n : Option ℤ) → number_in m ≡ Some n → SpellsNumber m n
number_found None n h = subst (SpellsNumber None) (same_some None n h) refl
number_found (Some d) n h = let found = map_some Some (whole d) n h in subst (SpellsNumber (Some d)) found.2 found.1

number_again : (m : Option Data) (n : Option ℤ) → SpellsNumber m n → number_in m ≡ Some n
number_again None None s = refl
number_again None (Some n) s = cc
number_again (Some d) None s = cc
number_again (Some d) (Some n) s = ap (option_map Some) s

-- ---- tables

abbrev rows_at : Data → Option (Table)
rows_at d = member_in (finding_in row_of) (get (codes "rows") d)

abbrev errors_at : Data → Option (Table)
errors_at d = optional_in (finding_in error_of) (get (codes "errors") d)

abbrev breaks_at : Data → Option (Table)
breaks_at d = optional_in (finding_in break_text_of) (get (codes "breaks") d)

abbrev name_at : Data → Option (List ℕ)
name_at d = option_and_then as_str (get (codes "name") d)

module _ (version : Version) (d : Data) where
  -- what was read of a table with this name, or with this number too
  abbrev with_name : List ℕ → Option NumberedTable
  with_name name = option_and_then (λ given. option_map (numbered name given) (findings_in d)) (number_by version d)

  abbrev with_number : List ℕ → Option ℤ → Option NumberedTable
  with_number name given = option_map (numbered name given) (findings_in d)

module _ (version : Version) (d : Data) (t : NumberedTable) where
  table_found : numbered_in version d ≡ Some t → SpellsTable (is_member_of version) d (table_of t) × (number_by version d ≡ Some t.number)
  table_found h =
      let fits = if_some (has_only (is_member_of version) d) _ t h in
      let name = and_then_some (with_name version d) (name_at d) t fits.1 in
      let text = and_then_some as_str (get (codes "name") d) name.0 name.1 in
      let given = and_then_some (with_number version d name.0) (number_by version d) t name.2 in
      let findings = map_some (numbered name.0 given.0) (findings_in d) t given.2 in
      let rows = and_then_some (λ rs. option_and_then (λ es. option_map (λ bs. rs ++ es ++ bs) (breaks_at d)) (errors_at d)) (rows_at d) findings.0 findings.1 in
      let errors = and_then_some (λ es. option_map (λ bs. rows.0 ++ es ++ bs) (breaks_at d)) (errors_at d) findings.0 rows.2 in
      let breaks = map_some (λ bs. rows.0 ++ errors.0 ++ bs) (breaks_at d) findings.0 errors.2 in (
        record {
          members = fits.0;
          name = text.1 ∙ ap Some (string_of text.0 name.0 text.2) ∙ ap (λ (x : NumberedTable). Some (string x.name)) findings.2;
          rows = rows.0;
          errors = errors.0;
          breaks = breaks.0;
          rows_are = member_found (finding_in row_of) (SpellsFinding row_of) (finding_reader row_of) _ rows.0 rows.1;
          errors_are = optional_found (finding_in error_of) (SpellsFinding error_of) (finding_reader error_of) _ errors.0 errors.1;
          breaks_are = optional_found (finding_in break_text_of) (SpellsFinding break_text_of) (finding_reader break_text_of) _ breaks.0 breaks.1;
          all = sym (breaks.2 ∙ ap (λ (x : NumberedTable). x.findings) findings.2);
        },
        given.1 ∙ ap (λ (x : NumberedTable). Some x.number) findings.2,
      )

  table_again : SpellsTable (is_member_of version) d (table_of t) → number_by version d ≡ Some t.number → numbered_in version d ≡ Some t
  table_again s n =
      let rows = member_again (finding_in row_of) (SpellsFinding row_of) (finding_reader row_of) _ s.rows s.rows_are in
      let errors = optional_again (finding_in error_of) (SpellsFinding error_of) (finding_reader error_of) _ s.errors s.errors_are in
      let breaks = optional_again (finding_in break_text_of) (SpellsFinding break_text_of) (finding_reader break_text_of) _ s.breaks s.breaks_are in
      let findings : findings_in d ≡ Some (s.rows ++ s.errors ++ s.breaks) =
      ap (option_and_then (λ rs. option_and_then (λ es. option_map (λ bs. rs ++ es ++ bs) (breaks_at d)) (errors_at d))) rows
      ∙ ap (option_and_then (λ es. option_map (λ bs. s.rows ++ es ++ bs) (breaks_at d))) errors
      ∙ ap (option_map (λ bs. s.rows ++ s.errors ++ bs)) breaks in
      ap (λ b. if b then option_and_then (with_name version d) (name_at d) else None) s.members
      ∙ ap (λ o. option_and_then (with_name version d) (option_and_then as_str o)) s.name
      ∙ ap (option_and_then (with_number version d t.name)) n
      ∙ ap (option_map (numbered t.name t.number)) findings
      ∙ ap (λ x. Some (numbered t.name t.number x)) (sym s.all)

-- ---- tables without numbers

abbrev SpellsUnnumbered : Data → NumberedTable → Type 0
SpellsUnnumbered d t = SpellsTable is_table_member d (table_of t) × (t.number ≡ None)

unnumbered_reader : IsReader (numbered_in First) SpellsUnnumbered
unnumbered_reader = record {
  found = λ d t h. let parts = table_found First d t h in (parts.0, sym (same_some None t.number parts.1));
  again = λ d t s. table_again First d t s.0 (ap Some (sym s.1));
}

each_without : (ds : Items) (ts : List NumberedTable) → SpellsEach SpellsUnnumbered ds ts → SpellsEach (SpellsTable is_table_member) ds (tables_of ts)
each_without no_items [] s = tt
each_without no_items (t ∷ ts) s = absurd s
each_without (item d ds) [] s = absurd s
each_without (item d ds) (t ∷ ts) s = (s.0.0, each_without ds ts s.1)

abbrev unnumbered : Tables → List NumberedTable
unnumbered ts = map (λ t. numbered t.0 None t.1) ts

each_unnumbered : (ds : Items) (ts : Tables) → SpellsEach (SpellsTable is_table_member) ds ts → SpellsEach SpellsUnnumbered ds (unnumbered ts)
each_unnumbered no_items [] s = tt
each_unnumbered no_items (t ∷ ts) s = absurd s
each_unnumbered (item d ds) [] s = absurd s
each_unnumbered (item d ds) (t ∷ ts) s = ((s.0, refl), each_unnumbered ds ts s.1)

tables-unnumbered : (ts : Tables) → ts ≡ tables_of (unnumbered ts)
tables-unnumbered [] = refl
tables-unnumbered (t ∷ ts) = ap (λ us. t ∷ us) (tables-unnumbered ts)

abbrev SpellsListed : (Data → NumberedTable → Type 0) → Data → Tables → Type 0
SpellsListed S d ts = (listed : List NumberedTable) × SpellsList S d listed × (ts ≡ tables_of listed)

without : (d : Data) (ts : Tables) → SpellsListed SpellsUnnumbered d ts → Spells d ts
without d ts s = subst (Spells d) (sym s.2) (s.1.0, s.1.1, each_without s.1.0 s.0 s.1.2)

with_none : (d : Data) (ts : Tables) → Spells d ts → SpellsListed SpellsUnnumbered d ts
with_none d ts s = (unnumbered ts, (s.0, s.1, each_unnumbered s.0 ts s.2), tables-unnumbered ts)

pub tables_reader : IsReader (tables_in First) Spells
tables_reader =
    alike_reader (tables_in First) (SpellsListed SpellsUnnumbered) Spells
    (mapped_reader tables_of (listed_in First) (SpellsList SpellsUnnumbered) (list_reader (numbered_in First) SpellsUnnumbered unnumbered_reader))
    without with_none

-- ---- tables with numbers

numbered_reader : IsReader (numbered_in Second) SpellsNumberedTable
numbered_reader = record {
  found = λ d t h.
      let parts = table_found Second d t h in
      record { table = parts.0; number = number_found (get (codes "maxBatchSize") d) t.number parts.1 };
  again = λ d t s. table_again Second d t s.table (number_again (get (codes "maxBatchSize") d) t.number s.number);
}

pub listed_reader : IsReader (listed_in Second) (SpellsList SpellsNumberedTable)
listed_reader = list_reader (numbered_in Second) SpellsNumberedTable numbered_reader

with_numbers : (d : Data) (ts : Tables) → SpellsListed SpellsNumberedTable d ts → SpellsWithNumbers d ts
with_numbers d ts s = (numbers_of s.0, record { listed = s.0; list = s.1; tables_are = s.2; numbers_are = refl })

pub numbered_tables_reader : IsReader (tables_in Second) SpellsWithNumbers
numbered_tables_reader =
    alike_reader (tables_in Second) (SpellsListed SpellsNumberedTable) SpellsWithNumbers
    (mapped_reader tables_of (listed_in Second) (SpellsList SpellsNumberedTable) listed_reader)
    with_numbers (λ d ts s. (s.1.listed, s.1.list, s.1.tables_are))

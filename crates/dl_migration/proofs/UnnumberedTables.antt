-- Trees of tables that have no numbers spell them in both versions.
use Rattle.std.proofs.Common.{◌≡◌, ◌∙◌, sym, ap, refl, ℕ, List, [], ◌∷◌, map, Bool, true, false, ◌||◌, codes, bytes_eq, None, true≢false}
use Rattle.std.proofs.lemmas.Bool.{and_parts, and_from}
use Rattle.std.proofs.lemmas.Option.{same_Some}
use Rattle.serde_json.specs.Data.{Data, null, boolean, number, string, array, object, Items, no_items, item, Members, no_members, member}
use Rattle.dl_source.specs.Faults.{Has, Causes, has_bad_key, has_long_text, has_other_number, has_repeated_key}
use Rattle.dl_values.specs.TableLimits.{repeats}
use Rattle.dl_source.specs.NumberedTables.{NumberedTable, numbered, tables_of, numbers_of}
use Rattle.dl_source.specs.Spelling.{SpellsEach, SpellsTable, SpellsNumberedTable, Spells, SpellsNumbered, SpellsWithNumbers}
use Rattle.dl_source.specs.Spelling.{is_table_member, is_numbered_member, names_all, has_only}
use Rattle.dl_source.specs.Tables.{Table, Tables}
use Rattle.dl_source.specs.declared.fault.TableFault.{TableFault}
use Rattle.dl_source.specs.declared.fault.TableFault.TheVariants.{Shape, BadKey, TextTooLong, NotWhole, DuplicateTable, DuplicateKey, OutOfMemory}
use Rattle.dl_source.proofs.Spelling.{numbered_tables_reader}
use Rattle.dl_documents.proofs.KnownMembers.{absent}

-- ---- members

or_left : (a b : Bool) → a ≡ true → (a || b) ≡ true
or_left true b e = refl
or_left false b e = absurd (true≢false (sym e))

-- a table's members are also those of a table that may have a number
names_more : (ms : Members) → names_all is_table_member ms ≡ true → names_all is_numbered_member ms ≡ true
names_more no_members all = refl
names_more (member name d ms) all =
    let p = and_parts (is_table_member name) (names_all is_table_member ms) all in
    and_from (is_numbered_member name) (names_all is_numbered_member ms)
    (or_left (is_table_member name) (bytes_eq name (codes "maxBatchSize")) p.0) (names_more ms p.1)

members_more : (d : Data) → has_only is_table_member d ≡ true → has_only is_numbered_member d ≡ true
members_more null all = all
members_more (boolean b) all = all
members_more (number n) all = all
members_more (string s) all = all
members_more (array ds) all = all
members_more (object ms) all = names_more ms all

-- ---- tables

abbrev unnumbered : Tables → List NumberedTable
unnumbered tables = map (λ t. numbered t.0 None t.1) tables

table_more : (d : Data) (t : List ℕ × Table) → SpellsTable is_table_member d t → SpellsNumberedTable d (numbered t.0 None t.1)
table_more d t s = record {
  table = record {
    members = members_more d s.members;
    name = s.name;
    rows = s.rows;
    errors = s.errors;
    breaks = s.breaks;
    rows_are = s.rows_are;
    errors_are = s.errors_are;
    breaks_are = s.breaks_are;
    all = s.all;
  };
  number = absent is_table_member (codes "maxBatchSize") d s.members refl;
}

each_more : (ds : Items) (tables : Tables) → SpellsEach (SpellsTable is_table_member) ds tables → SpellsEach SpellsNumberedTable ds (unnumbered tables)
each_more no_items [] s = tt
each_more no_items (t ∷ tables) s = absurd s
each_more (item d ds) [] s = absurd s
each_more (item d ds) (t ∷ tables) s = (table_more d t s.0, each_more ds tables s.1)

tables-unnumbered : (tables : Tables) → tables ≡ tables_of (unnumbered tables)
tables-unnumbered [] = refl
tables-unnumbered (t ∷ tables) = ap (λ (ts : Tables). t ∷ ts) (tables-unnumbered tables)

numbers-unnumbered : (tables : Tables) → [] ≡ numbers_of (unnumbered tables)
numbers-unnumbered [] = refl
numbers-unnumbered (t ∷ tables) = numbers-unnumbered tables

-- ---- either version

module _ (d : Data) (tables : Tables) (s : Spells d tables) where
  -- the same tables in version 2, with no numbers
  pub without_numbers : SpellsNumbered d tables []
  without_numbers = record {
    listed = unnumbered tables;
    list = (s.0, s.1, each_more s.0 tables s.2);
    tables_are = tables-unnumbered tables;
    numbers_are = numbers-unnumbered tables;
  }

  -- in version 2 no other tables are spelled, so what holds of tables of version 2 holds of these
  has_first : (test : Tables → Bool) → Has SpellsWithNumbers test d → Has Spells test d
  has_first test (others, spelled, is) =
      let same : tables ≡ others =
      same_Some tables others (sym (numbered_tables_reader.again d tables ([], without_numbers)) ∙ numbered_tables_reader.again d others spelled) in
      (tables, s, ap test same ∙ is)

  -- what version 2 refuses in them, version 1 does
  pub causes_first : (f : TableFault) → Causes SpellsWithNumbers d f → Causes Spells d f
  causes_first Shape cause = absurd (cause tables ([], without_numbers))
  causes_first BadKey cause = has_first has_bad_key cause
  causes_first TextTooLong cause = has_first has_long_text cause
  causes_first NotWhole cause = has_first has_other_number cause
  causes_first DuplicateTable cause = has_first repeats cause
  causes_first DuplicateKey cause = has_first has_repeated_key cause
  causes_first OutOfMemory cause = absurd cause

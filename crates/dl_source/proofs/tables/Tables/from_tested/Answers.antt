use Rattle.std.proofs.Common.{◌≡◌, ◌⊎◌, List, length, true, false, ◌++◌, ◌∷◌, [], ◌||◌, ap, sym, ◌∙◌, inl, inr, arith, rules, append_assoc, append-nil}
use Rattle.std.specs.Vec.Iter.{into_iter_items}
use Rattle.std.proofs.lemmas.Result.{IfOk-from_err, err_from_is_err_and}
use Rattle.dl_source.specs.declared.fault.TableFault.{TableFault}
use Rattle.dl_source.specs.declared.fault.TableFault.TheVariants.{DuplicateKey, OutOfMemory}
use Rattle.dl_source.specs.Tables.{Tables}
use Rattle.dl_values.specs.TableLimits.{lists, repeats}
use Rattle.dl_source.specs.Faults.{has_other_number, has_repeated_key}
use Rattle.dl_source.specs.NumberedTables.{NumberedTable, table_of, tables_of}
use Rattle.dl_values.proofs.Repeats.{clashes, clashes_first, clashes_next, or_left_false, or_right_false}
use Rattle.dl_source.proofs.Lists.{nothing_left}
use Rattle.dl_source.proofs.Repeats.{goes_on_next}
use Rattle.dl_source.proofs.tables.Tables.from_tested.Goals as goal

pub loop-table-init : goal.loop-table-init
loop-table-init c =
    let given = c.into_iter-table-iterator.ensures.into_iter_gives in
    let empty = c.in_ok-tables.ensures in
    record {
      order = ap (λ ts. ts ++ tables_of (into_iter_items c.into_iter-table-iterator.result)) empty ∙ ap tables_of given.0;
      names = ap (λ ts. clashes ts (tables_of (into_iter_items c.into_iter-table-iterator.result))) empty
          ∙ ap (λ ts. clashes [] (tables_of ts)) given.0
          ∙ clashes_first (tables_of c.args.listed.items)
          ∙ c.requires.names;
      whole = ap (λ ts. has_other_number (tables_of ts)) given.0 ∙ c.requires.whole;
      ids = ap (λ ts. has_repeated_key (tables_of ts)) given.0;
      count = search rules;
    }

-- the next table's name is new
new_name : (front : Tables) (all rest : List NumberedTable) (t : NumberedTable) → all ≡ t ∷ rest → clashes front (tables_of all) ≡ false → lists t.name front ≡ false
new_name front all rest t is names =
    or_left_false _ _ (sym (clashes_next front (tables_of rest) (table_of t)) ∙ sym (ap (λ ts. clashes front (tables_of ts)) is) ∙ names)

pub add_listed-requires-clause-name : goal.add_listed-requires-clause-name
add_listed-requires-clause-name c =
    let l = c.loop-table in
    new_name l.tables (into_iter_items l.table-iterator) (into_iter_items c.next.new.self) c.in-Some.table c.in-Some.ensures.steps.0 l.invariant.names

pub add_listed-requires-clause-whole : goal.add_listed-requires-clause-whole
add_listed-requires-clause-whole c =
    or_left_false _ _ (sym (ap (λ ts. has_other_number (tables_of ts)) c.in-Some.ensures.steps.0) ∙ c.loop-table.invariant.whole)

pub loop-table-preserved : goal.loop-table-preserved
loop-table-preserved c =
    let l = c.loop-table in
    let t = table_of c.in-Some.table in
    let rest = tables_of (into_iter_items c.next.new.self) in
    let steps = c.in-Some.ensures.steps.0 in
    let here : tables_of (into_iter_items l.table-iterator) ≡ t ∷ rest = ap tables_of steps in
    let new = new_name l.tables (into_iter_items l.table-iterator) (into_iter_items c.next.new.self) c.in-Some.table steps l.invariant.names in
    let added = c.in_ok-add_listed.ensures.ok.0 in
    record {
      order = ap (λ ts. ts ++ rest) added ∙ append_assoc l.tables (t ∷ []) rest ∙ ap (λ r. l.tables ++ r) (sym here) ∙ l.invariant.order;
      names = ap (λ ts. clashes ts rest) added ∙ goes_on_next l.tables rest (tables_of (into_iter_items l.table-iterator)) t _ here l.invariant.names new;
      whole = or_right_false _ _ (sym (ap has_other_number here) ∙ l.invariant.whole);
      ids = sym (ap has_repeated_key here ∙ ap (λ b. b || has_repeated_key rest) c.in_ok-add_listed.ensures.ok.1) ∙ l.invariant.ids;
      count = (
          let was = l.invariant.count in
          let gone = c.in-Some.ensures.steps.1 in
          let short = ap length steps in
          omega arith);
    }

pub returns-in_err-tables-clause-ok : goal.returns-in_err-tables-clause-ok
returns-in_err-tables-clause-ok c = IfOk-from_err _ _ c.from_residual.ensures.0

-- an id that the next table lists twice
twice_there : (all rest whole : List NumberedTable) (t : NumberedTable) → all ≡ t ∷ rest → has_repeated_key (tables_of all) ≡ has_repeated_key (tables_of whole)
    → (f : TableFault) → (f ≡ OutOfMemory) ⊎ ((f ≡ DuplicateKey) × (repeats t.findings ≡ true))
    → (f ≡ OutOfMemory) ⊎ ((f ≡ DuplicateKey) × (has_repeated_key (tables_of whole) ≡ true))
twice_there all rest whole t is same f (inl memory) = inl memory
twice_there all rest whole t is same f (inr twice) =
    inr (twice.0, sym same ∙ ap (λ ts. has_repeated_key (tables_of ts)) is ∙ ap (λ b. b || has_repeated_key (tables_of rest)) twice.1)

pub returns-in_err-add_listed-clause-err : goal.returns-in_err-add_listed-clause-err
returns-in_err-add_listed-clause-err c =
    let l = c.loop-table in
    let p = err_from_is_err_and c.from_residual-in_err-add_listed.result c.from_residual-in_err-add_listed.ensures.1 in
    rw (p.1, p.2) (twice_there (into_iter_items l.table-iterator) (into_iter_items c.next.new.self) c.args.listed.items c.in-Some.table
    c.in-Some.ensures.steps.0 l.invariant.ids c.in_err-add_listed.field-0.0 c.in_err-add_listed.ensures.err)

pub returns-in_err-add_listed-clause-ok : goal.returns-in_err-add_listed-clause-ok
returns-in_err-add_listed-clause-ok c = IfOk-from_err _ _ c.from_residual-in_err-add_listed.ensures.0

pub returns-clause-ok : goal.returns-clause-ok
returns-clause-ok c =
    let l = c.loop-table in
    let none = nothing_left _ (sym l.invariant.count ∙ c.in-None.ensures.steps.0) in (
      sym (append-nil l.tables) ∙ ap (λ ts. l.tables ++ tables_of ts) (sym none) ∙ l.invariant.order,
      sym l.invariant.ids ∙ ap (λ ts. has_repeated_key (tables_of ts)) none,
    )

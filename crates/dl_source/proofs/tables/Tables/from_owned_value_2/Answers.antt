use Rattle.std.proofs.Common.{◌≡◌, Some, ap, ◌∙◌, option_map}
use Rattle.std.proofs.lemmas.Result.{err_from_is_err_and}
use Rattle.serde_json.specs.View.{view}
use Rattle.dl_source.specs.declared.table_reader.Version.TheVariants.{Second}
use Rattle.dl_source.specs.NumberedTables.{tables_of, numbers_of}
use Rattle.dl_source.specs.Spelling.{SpellsWithNumbers}
use Rattle.dl_source.specs.Inside.Reading.{tables_in}
use Rattle.dl_source.proofs.Spelling.{listed_reader, numbered_tables_reader}
use Rattle.dl_source.proofs.Refusals.{unread, refused, accepted}
use Rattle.dl_source.proofs.tables.Tables.from_owned_value_2.Goals as goal

pub returns-in_err-listed-clause-err : goal.returns-in_err-listed-clause-err
returns-in_err-listed-clause-err c =
    let p = err_from_is_err_and c.from_residual.result c.from_residual.ensures.1 in
    rw (p.1, p.2) (unread Second SpellsWithNumbers numbered_tables_reader (view c.args.value) c.in_err-listed.field-0.0 _ c.in_err-listed.ensures)

pub returns-in_err-tables-clause-err : goal.returns-in_err-tables-clause-err
returns-in_err-tables-clause-err c =
    let d = view c.args.value in
    let tables = tables_of c.in_ok-listed.listed.items in
    let read : tables_in Second d ≡ Some tables = ap (option_map tables_of) c.in_ok-listed.ensures in
    let p = err_from_is_err_and c.from_residual-in_err-tables.result c.from_residual-in_err-tables.ensures.1 in
    rw (p.1, p.2) (refused Second SpellsWithNumbers numbered_tables_reader d tables read c.in_err-tables.field-0.0 c.in_err-tables.ensures.err)

pub returns-clause-ok : goal.returns-clause-ok
returns-clause-ok c =
    let listed = c.in_ok-listed.listed.items in
    record {
      listed = listed;
      list = listed_reader.found (view c.args.value) listed c.in_ok-listed.ensures;
      tables_are = c.in_ok-tables.ensures.ok.0;
      numbers_are = c.in_ok-numbers.ensures ∙ ap numbers_of c.as_slice.ensures.value;
    }

pub returns-clause-passes : goal.returns-clause-passes
returns-clause-passes c =
    let d = view c.args.value in
    let tables = tables_of c.in_ok-listed.listed.items in
    let read : tables_in Second d ≡ Some tables = ap (option_map tables_of) c.in_ok-listed.ensures in
    accepted Second SpellsWithNumbers numbered_tables_reader d tables read c.in_ok-tables.ensures.ok.1

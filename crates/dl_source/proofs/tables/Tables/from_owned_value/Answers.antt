use Rattle.std.proofs.Common.{◌≡◌, Some, ap, sym, subst, option_map}
use Rattle.std.proofs.lemmas.Result.{err_from_is_err_and, MatchResult-weaker}
use Rattle.serde_json.specs.View.{view}
use Rattle.dl_source.specs.declared.table_reader.Version.TheVariants.{First}
use Rattle.dl_source.specs.NumberedTables.{tables_of}
use Rattle.dl_source.specs.Spelling.{Spells}
use Rattle.dl_source.specs.Inside.Reading.{tables_in}
use Rattle.dl_source.proofs.Spelling.{tables_reader}
use Rattle.dl_source.proofs.Refusals.{spelled, unread, refused, accepted}
use Rattle.dl_source.proofs.tables.Tables.from_owned_value.Goals as goal

pub returns-in_err-listed-clause-err : goal.returns-in_err-listed-clause-err
returns-in_err-listed-clause-err c =
    let p = err_from_is_err_and c.from_residual.result c.from_residual.ensures.1 in
    rw (p.1, p.2) (unread First Spells tables_reader (view c.args.value) c.in_err-listed.field-0.0 _ c.in_err-listed.ensures)

pub returns-clause-ok : goal.returns-clause-ok
returns-clause-ok c =
    let d = view c.args.value in
    let tables = tables_of c.in_ok-listed.listed.items in
    let read : tables_in First d ≡ Some tables = ap (option_map tables_of) c.in_ok-listed.ensures in
    MatchResult-weaker c.from_listed.result c.from_listed.ensures.ok
    (λ t h. subst (Spells d) (sym h.0) (spelled First Spells tables_reader d tables read)) (λ _ h. h)

pub returns-clause-passes : goal.returns-clause-passes
returns-clause-passes c =
    let d = view c.args.value in
    let tables = tables_of c.in_ok-listed.listed.items in
    let read : tables_in First d ≡ Some tables = ap (option_map tables_of) c.in_ok-listed.ensures in
    MatchResult-weaker c.from_listed.result c.from_listed.ensures.ok (λ t h. accepted First Spells tables_reader d tables read h.1) (λ _ h. h)

pub returns-clause-err : goal.returns-clause-err
returns-clause-err c =
    let d = view c.args.value in
    let tables = tables_of c.in_ok-listed.listed.items in
    let read : tables_in First d ≡ Some tables = ap (option_map tables_of) c.in_ok-listed.ensures in
    MatchResult-weaker c.from_listed.result c.from_listed.ensures.err (λ _ h. h) (λ f h. refused First Spells tables_reader d tables read f h)

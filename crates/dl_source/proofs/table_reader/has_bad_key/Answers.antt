use Rattle.std.proofs.Common.{◌||◌, sym, ◌∙◌, rules, tests}
use Rattle.std.specs.List.{list_any}
use Rattle.std.proofs.lemmas.Iterator.{YieldsList-from_slice}
use Rattle.std.proofs.lemmas.Iterator.Search.{any_from_yields_List}
use Rattle.dl_source.specs.Faults.{has_bad_id, has_bad_name}
use Rattle.dl_source.specs.NumberedTables.{NumberedTable, table_of}
use Rattle.dl_source.proofs.WithoutNumbers.{any-map}
use Rattle.dl_source.proofs.table_reader.has_bad_key.Goals as goal

pub returns : goal.returns
returns c =
    let tables = c.args.tables.now in
    any_from_yields_List (λ (t : NumberedTable). has_bad_name (table_of t) || list_any has_bad_id t.findings) _ _ c.any.result c.any.ensures.ran (YieldsList-from_slice tables cc)
    (λ x b q k. search (rules, tests))
    ∙ sym (any-map table_of (λ t. has_bad_name t || list_any has_bad_id t.1) tables)

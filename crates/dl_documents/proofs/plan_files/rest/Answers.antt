use Rattle.serde_json.specs.View.{view}
use Rattle.dl_documents.proofs.OwnNumbers.{tables_named}
use Rattle.dl_documents.proofs.plan_files.rest.Goals as goal

pub all_limits-requires : goal.all_limits-requires
all_limits-requires c =
    tables_named c.args.head.version (view c.args.tables) c.in_ok-tables.tables c.in_ok-tables.numbers.items c.in_ok-tables.ensures.ok

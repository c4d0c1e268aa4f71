use Rattle.serde_json.specs.View.{view}
use Rattle.dl_server.proofs.source.listed_tables.Goals as goal

pub returns-in-Ok : goal.returns-in-Ok
returns-in-Ok c = (view c.in_ok-value.value, c.in_ok-value.ensures, c.in-Ok.ensures.ok)

use Rattle.std.proofs.Common.{inr}
use Rattle.std.proofs.lemmas.Option.{IfSome_then}
use Rattle.dl_server.proofs.standard.over_tables.Goals as goal

pub returns-in-None : goal.returns-in-None
returns-in-None g c = IfSome_then c.args.options.database c.requires (λ tables read. inr read)

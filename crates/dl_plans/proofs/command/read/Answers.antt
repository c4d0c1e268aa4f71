use Rattle.std.proofs.Common.{map, refl}
use Rattle.dl_plans.specs.Options.{plans_app}
use Rattle.dl_plans.proofs.CommandMatches.{given_by_words}
use Rattle.dl_plans.proofs.command.read.Goals as goal

pub returns-in-Ok-clause-given : goal.returns-in-Ok-clause-given
returns-in-Ok-clause-given g c =
    given_by_words _ plans_app (map g.S.AsStr.text c.args.words.now) c.in-Ok.matches c.given.result c.requires refl c.in-Ok.ensures.ok.2
    c.given.ensures.given

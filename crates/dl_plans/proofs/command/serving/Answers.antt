use Rattle.std.proofs.Common.{◌∙◌, codes, refl}
use Rattle.clap.specs.Words.{found_of, rows_of, subcommand_rows_of}
use Rattle.dl_plans.proofs.CommandMatches.{name_used, used_is}
use Rattle.dl_plans.proofs.command.serving.Goals as goal

pub returns-in-Some : goal.returns-in-Some
returns-in-Some c =
    used_is (subcommand_rows_of c.args.matches.now) (codes "serve") (rows_of (found_of c.in-Some.own.now)) (name_used c.args.matches.now ∙ c.in-Some.ensures.found.0 refl)
    c.in-Some.ensures.rows

use Rattle.std.proofs.Common.{◌∙◌, ap}
use Rattle.std.proofs.lemmas.Result.{IfOk-weaker}
use Rattle.clap.specs.Words.{with_subcommand}
use Rattle.dl_plans.proofs.CommandMatches.{no_globals}
use Rattle.dl_plans.proofs.command.plans_words.Goals as goal

pub returns : goal.returns
returns c =
    let serve = c.in_ok-serve.ensures in
    let words = c.in_ok-document_words.ensures in
    IfOk-weaker c.subcommand.result _ _
    (λ new adds. adds.shape (no_globals c.in_ok-serve.serve (ap (λ a. a.top.is_plain) serve)) ∙ (λ i. with_subcommand (words i) (serve i).top))
    c.subcommand.ensures

use Rattle.std.proofs.Common.{rules, ◌≡◌, ◌∙◌, ap, codes}
use Rattle.std.proofs.lemmas.Result.{IfOk-weaker}
use Rattle.clap.specs.Simple.{app_of_fields}
use Rattle.clap.specs.Words.{app_of, new_app, with_rule, with_subcommand}
use Rattle.dl_plans.specs.Options.{migrate_app}
use Rattle.dl_plans.proofs.command.document_words.Goals as goal

pub returns : goal.returns
returns c =
    let named : app_of c.override_usage.result ≡ new_app (codes "migrate") =
    ap app_of_fields c.override_usage.ensures ∙ (ap app_of_fields c.about.ensures ∙ c.new.ensures.app) in
    let migrate : app_of c.in_ok-migrate.migrate ≡ migrate_app =
    c.in_ok-migrate.ensures.shape c.to.ensures.local ∙ (λ i. with_rule (named i) (c.to.ensures.rule i)) in
    let words = c.in_ok-file_words.ensures in
    IfOk-weaker c.subcommand.result _ _ (λ new adds. adds.shape (search rules) ∙ (λ i. with_subcommand (words i) (migrate i).top))
    c.subcommand.ensures

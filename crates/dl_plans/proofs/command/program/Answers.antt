use Rattle.std.proofs.Common.{ap, ◌∙◌}
use Rattle.clap.specs.Simple.{app_of_fields, on_top}
use Rattle.dl_plans.specs.Options.{without_name}
use Rattle.dl_plans.proofs.command.program.Goals as goal

pub returns : goal.returns
returns c =
    ap app_of_fields c.no_binary_name.ensures
    ∙ (ap (λ f. on_top without_name (app_of_fields f)) c.about.ensures ∙ ap (on_top without_name) c.new.ensures.app)

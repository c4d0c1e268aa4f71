use Rattle.std.proofs.Common.{◌∙◌, ap, map}
use Rattle.dl_replay.specs.Told.{line_of}
use Rattle.dl_replay.proofs.Lines.{all_lines}
use Rattle.dl_replay.proofs.replaying.with_loader.Goals as goal

pub returns-in-Ok-close-clause-events : goal.returns-in-Ok-close-clause-events
returns-in-Ok-close-clause-events g c =
    ap (map line_of) c.in-Ok-close.ensures.events
    ∙ (c.in_default-make_all.ensures.made.are ∙ all_lines c.args.calls.now c.args.told.now c.requires.as_many)

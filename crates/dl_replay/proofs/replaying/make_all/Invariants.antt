use Rattle.dl_replay.specs.Replay.{HasMade}
use Rattle.dl_replay.proofs.replaying.make_all.Given as goal

abbrev pub invariant-loop-at : goal.invariant-loop-at
invariant-loop-at g l = HasMade g.L.LoaderName.service l.calls l.told l.at l.loader

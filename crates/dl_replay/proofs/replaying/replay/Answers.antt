use Rattle.std.proofs.Common.{refl}
use Rattle.dl_values.specs.Limits.{rules_by}
use Rattle.dl_desk.specs.Service.{service}
use Rattle.dl_loader.specs.HostSource.{by_marks}
use Rattle.dl_replay.proofs.replaying.replay.Goals as goal

pub returns-in-Err-clause-fault : goal.returns-in-Err-clause-fault
returns-in-Err-clause-fault c = (service (rules_by c.args.limits c.args.tables) 0 by_marks, refl, tt)

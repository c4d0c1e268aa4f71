use Rattle.std.proofs.Common.{refl, inr, Some}
use Rattle.dl_values.specs.declared.outcome.BatchFault.TheVariants.{Unsent}
use Rattle.dl_desk.specs.declared.event.Call.TheVariants.{Fail}
use Rattle.dl_haxl.proofs.handover.Evaluator+L+JobQueue.fail_unsent.Goals as goal
use Rattle.dl_haxl.proofs.handover.Evaluator+L+JobQueue.fail_unsent.Goals.{in-Ok, in-Ok-2, in-Err}

-- a cell refused its outcome, or the failure was refused
pub returns-clause-fault : goal.returns-clause-fault
returns-clause-fault g c = elim c.match-fail.branch [
  | in-Ok w ↦ rw w.result-is (inr (w.in-Ok.ensures.refused w.if-settled-gt0.true))
  | in-Ok-2 w ↦ rw w.result-is tt
  | in-Err w ↦ rw w.result-is (c.args.pass.now.trace, Fail c.args.job.batch Unsent, Some c.args.job, refl, w.in-Err.ensures.fault, w.in-Err.ensures.knows)
]

use Rattle.std.proofs.Common.{◌≡◌, length}
use Rattle.dl_loader.specs.Additions.{KeepsTickets}
use Rattle.dl_workers.specs.Seats.{IsSenderOf, sent_jobs}
use Rattle.dl_haxl.proofs.Stretches.{Leaves}
use Rattle.dl_haxl.proofs.steps.take_steps.Given as goal

abbrev pub invariant-loop-step : goal.invariant-loop-step
invariant-loop-step g l = record {
  seat : IsSenderOf l.queue l.sender;
  number : l.number ≡ length l.yielded;
  older : KeepsTickets l.fn.pass.trace l.pass.trace;
  leaves : Leaves l.fn.pass.trace l.pass.trace (sent_jobs l.fn.sender) (sent_jobs l.sender) l.yielded l.given.answers.items l.given.rounds;
}

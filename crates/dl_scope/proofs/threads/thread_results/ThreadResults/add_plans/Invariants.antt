use Rattle.std.proofs.Common.{◌≡◌, ◌++◌, map}
use Rattle.dl_scope.specs.Inside.ThreadResults.{AllGave}
use Rattle.dl_scope.proofs.threads.thread_results.ThreadResults.add_plans.Given as goal

abbrev pub invariant-loop-run : goal.invariant-loop-run
invariant-loop-run g l = record {
  passes : l.self.passes.items ≡ l.fn.self.passes.items ++ map (λ run. run.pass) l.yielded;
  senders : l.self.senders.items ≡ l.fn.self.senders.items ++ map (λ run. run.sender) l.yielded;
  takers : l.self.takers.items ≡ l.fn.self.takers.items;
  gave : AllGave l.yielded (map (λ a. a.items) l.self.answers.items) l.self.rounds.items;
}

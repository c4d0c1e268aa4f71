use Rattle.std.proofs.Common.{◌≡◌, ◌++◌, map}
use Rattle.dl_scope.proofs.threads.thread_results.ThreadResults.add_workers.Given as goal

abbrev pub invariant-loop-run : goal.invariant-loop-run
invariant-loop-run g l = record {
  passes : l.self.passes.items ≡ l.fn.self.passes.items ++ map (λ run. run.pass) l.yielded;
  senders : l.self.senders.items ≡ l.fn.self.senders.items;
  takers : l.self.takers.items ≡ l.fn.self.takers.items ++ map (λ run. run.taker) l.yielded;
  answers : l.self.answers.items ≡ l.fn.self.answers.items;
  rounds : l.self.rounds.items ≡ l.fn.self.rounds.items;
}

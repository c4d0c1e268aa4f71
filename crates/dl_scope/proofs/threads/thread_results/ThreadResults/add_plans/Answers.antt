use Rattle.std.proofs.Common.{refl}
use Rattle.dl_scope.proofs.ListLemmas.{map-append_push}
use Rattle.dl_scope.proofs.ResultLemmas.{gave_more}
use Rattle.dl_scope.proofs.threads.thread_results.ThreadResults.add_plans.Goals as goal

pub loop-run-preserved : goal.loop-run-preserved
loop-run-preserved g c =
    let before = c.loop-run.self in
    let after = c.add_to.new.all in
    let gave = c.in_ok-add_to.ensures.gave in
    record {
      passes = map-append_push (λ run. run.pass) c.args.self.now.passes.items before.passes.items after.passes.items c.loop-run.yielded c.in-Some.run'
          c.loop-run.invariant.passes c.in_ok-add_to.ensures.passes;
      senders = map-append_push (λ run. run.sender) c.args.self.now.senders.items before.senders.items after.senders.items c.loop-run.yielded
          c.in-Some.run' c.loop-run.invariant.senders c.in_ok-add_to.ensures.senders;
      takers = rw c.in_ok-add_to.ensures.takers c.loop-run.invariant.takers;
      gave = gave_more c.loop-run.yielded c.in-Some.run' before.answers.items after.answers.items gave.0.answers before.rounds.items after.rounds.items
          gave.0.rounds gave.0 c.loop-run.invariant.gave gave.1 refl refl gave.2 gave.3;
    }

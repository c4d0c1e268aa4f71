use Rattle.dl_haxl.specs.RunView.{seen}
use Rattle.dl_haxl.proofs.Exploration.{may_answer, may_before, on_pending}
use Rattle.dl_haxl.proofs.run.TermRunFuture.poll.Goals as goal

pub returns-in-Ready-clause-value : goal.returns-in-Ready-clause-value
returns-in-Ready-clause-value g c = may_answer (seen c.args.self.now) (seen c.advance.new.self) c.in-Ready.answer c.in-Ready.ensures.answer

pub returns-in-Pending-clause-same : goal.returns-in-Pending-clause-same
returns-in-Pending-clause-same g c = on_pending c.yield_now.result (may_before (seen c.args.self.now) (seen c.advance.new.self) c.in-Pending.ensures.waits)

use Rattle.std.proofs.Common.{◌∙◌}
use Rattle.dl_desk.proofs.DispatchJobs.{book_jobs-are}
use Rattle.dl_desk.proofs.desk.Desk.prepare_dispatch.Goals as goal

pub returns-clause-reply : goal.returns-clause-reply
returns-clause-reply c = λ history stands. c.in_ok-jobs.ensures ∙ (rw c.discard.ensures.prepared (book_jobs-are c.args.self.now.book history stands))

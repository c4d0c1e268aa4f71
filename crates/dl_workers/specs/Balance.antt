-- What the seats of a finished queue sent and took.
use Rattle.std.specs.Prelude.{◌≡◌, List, ◌++◌, length, flat_map}
use Rattle.dl_values.specs.declared.job.Job.{Job}
use Rattle.dl_workers.specs.Bag.{EachAsOften}
use Rattle.dl_workers.specs.Seats.{sent_jobs, taken_jobs}
use Rattle.dl_workers.specs.declared.seats.Sender.{Sender}
use Rattle.dl_workers.specs.declared.seats.Taker.{Taker}
use Rattle.dl_workers.specs.declared.queue.Tally.{Tally}

-- The jobs that all takers took, with those that are left, are the jobs that all senders sent, each as often. The tally
-- counts them.
pub record Balances (senders : List Sender) (takers : List Taker) (tally : Tally) : Type 0 where
  pub left : List Job
  pub same : EachAsOften (flat_map taken_jobs takers ++ left) (flat_map sent_jobs senders)
  pub counts_sent : tally.sent ≡ length (flat_map sent_jobs senders)
  pub counts_taken : tally.taken ≡ length (flat_map taken_jobs takers)
  pub counts_left : tally.left ≡ length left

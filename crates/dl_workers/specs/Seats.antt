-- The seats of a queue: whose they are, and what they sent or took.
use Rattle.std.specs.Prelude.{◌≡◌, ◌⊎◌, ℕ, ◌+◌, ◌^◌, true, List, [], length, All}
use Rattle.crossbeam_channel.specs.Claims.{view, IsSeatAt}
use Rattle.crossbeam_channel.specs.Ends.{sends_on, ruled_capacity}
use Rattle.dl_values.specs.declared.job.Job.{Job}
use Rattle.dl_workers.specs.LosslessRule.{has_end, jobs}
use Rattle.dl_workers.specs.declared.rule.Item.{Item}
use Rattle.dl_workers.specs.declared.seats.Sender.{Sender}
use Rattle.dl_workers.specs.declared.seats.Taker.{Taker}
use Rattle.dl_workers.specs.declared.queue.JobQueue.{JobQueue}

-- what a sender sent, with the end marks
abbrev pub sent_items : Sender → List Item
sent_items s = (view s.pass).sent

-- the jobs that a sender sent, in order
abbrev pub sent_jobs : Sender → List Job
sent_jobs s = jobs (sent_items s)

-- what a taker took, with its end mark
abbrev pub taken_items : Taker → List Item
taken_items t = (view t.pass).taken

-- the jobs that a taker took, in order
abbrev pub taken_jobs : Taker → List Job
taken_jobs t = jobs (taken_items t)

-- A taker that takes no more: its end mark is among what it took, or it took as many jobs as a seat may.
abbrev pub HasEnded : Taker → Type 0
HasEnded t = (has_end (taken_items t) ≡ true) ⊎ (length (taken_jobs t) + 1 ≡ 2 ^ 32)

-- a seat at this queue, which knows how many seats the queue has
abbrev pub IsSenderOf : JobQueue → Sender → Type 0
IsSenderOf q s = IsSeatAt (sends_on q.sends) s.pass × ((view s.pass).all ≡ q.senders + q.takers)

abbrev pub IsTakerOf : JobQueue → Taker → Type 0
IsTakerOf q t = IsSeatAt (sends_on q.sends) t.pass × ((view t.pass).all ≡ q.senders + q.takers)

-- these are all seats of the queue
pub record AreSeatsOf (q : JobQueue) (senders : List Sender) (takers : List Taker) : Type 0 where
  pub all_senders : length senders ≡ q.senders
  pub all_takers : length takers ≡ q.takers
  pub senders_of : All (IsSenderOf q) senders
  pub takers_of : All (IsTakerOf q) takers

-- how many items the queue has room for, with the end marks
abbrev pub queue_room : JobQueue → ℕ
queue_room q = ruled_capacity (sends_on q.sends)

-- a seat that has sent nothing, at a queue of `seats` seats
abbrev pub IsNewSender : ℕ → Sender → Type 0
IsNewSender seats s = ((view s.pass).all ≡ seats) × (sent_jobs s ≡ [])

-- a seat that has taken nothing, at a queue of `seats` seats
abbrev pub IsNewTaker : ℕ → Taker → Type 0
IsNewTaker seats t = ((view t.pass).all ≡ seats) × (taken_jobs t ≡ [])

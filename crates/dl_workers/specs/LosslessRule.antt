-- The rule of the queue's channel: it loses, doubles and makes up no item.
use Rattle.std.specs.Prelude.{◌≡◌, ℕ, ◌+◌, ◌<◌, Bool, true, false, List, [], ◌∷◌, ◌++◌, sum_by, count_by}
use mathlib.Core.Option.{some}
use lib.ListN.{get_elem?}
use Rattle.dl_values.specs.declared.job.Job.{Job}
use Rattle.dl_workers.specs.Bag.{EachAsOften}
use Rattle.dl_workers.specs.declared.rule.Item.{Item}
use Rattle.dl_workers.specs.declared.rule.Item.TheVariants.{Work, End}
use Rattle.dl_workers.specs.declared.rule.Traffic.{Traffic}

-- the traffic of `seats` seats out of `all`, which sent and took these items
abbrev pub traffic : ℕ → ℕ → List Item → List Item → Traffic
traffic seats all sent taken = record { seats = seats; all = all; sent = sent; taken = taken }

-- the jobs among items, without the end marks
abbrev pub jobs : List Item → List Job
jobs [] = []
jobs (Work job ∷ items) = job ∷ jobs items
jobs (End ∷ items) = jobs items

-- whether an end mark is among items
abbrev pub has_end : List Item → Bool
has_end [] = false
has_end (Work job ∷ items) = has_end items
has_end (End ∷ items) = true

-- a pass of at least one seat knows how many seats all passes have together
abbrev pub KnowsAll : List Traffic → Type 0
KnowsAll views = (pass : ℕ) (v : Traffic) → get_elem? views pass ≡ some v → 0 < v.seats → v.all ≡ sum_by (λ u. u.seats) views

-- a pass of no seat has sent and taken nothing
abbrev pub IdleIsEmpty : List Traffic → Type 0
IdleIsEmpty views = (pass : ℕ) (v : Traffic) → get_elem? views pass ≡ some v → v.seats ≡ 0 → (v.sent ≡ []) × (v.taken ≡ [])

-- The rule: what all passes sent is what all passes took and what the channel holds, each item as often.
pub record IsLossless (items : List Item) (views : List Traffic) : Type 0 where
  pub knows : KnowsAll views
  pub idle : IdleIsEmpty views
  pub balance : (test : Item → Bool) → sum_by (λ v. count_by test v.sent) views ≡ sum_by (λ v. count_by test v.taken) views + count_by test items

-- what the seats of one traffic sent is what they took and what the channel holds, each item as often
abbrev pub WholeIsLossless : Traffic → List Item → Type 0
WholeIsLossless v items = EachAsOften v.sent (v.taken ++ items)

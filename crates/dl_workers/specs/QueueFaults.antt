-- Which numbers a queue may have, and which fault you get for others.
use Rattle.std.specs.Prelude.{◌≡◌, ℕ, ◌<◌, ◌≤◌, ◌⊎◌}
use Rattle.dl_workers.specs.declared.fault.QueueFault.{QueueFault}
use Rattle.dl_workers.specs.declared.fault.QueueFault.TheVariants.{BadCapacity, BadCounts, OutOfMemory}

-- the most jobs that you may give a queue room for
abbrev pub largest_capacity : ℕ
largest_capacity = 1024

-- the most senders, and the most takers, of a queue
abbrev pub most_seats : ℕ
most_seats = 32

-- a number of jobs that you may give a queue room for
pub record IsCapacity (n : ℕ) : Type 0 where
  pub least : 1 ≤ n
  pub most : n ≤ largest_capacity

-- a number of senders or of takers that a queue may have
pub record IsCount (n : ℕ) : Type 0 where
  pub least : 1 ≤ n
  pub most : n ≤ most_seats

abbrev pub IsNoCapacity : ℕ → Type 0
IsNoCapacity n = (n ≡ 0) ⊎ (largest_capacity < n)

abbrev pub IsNoCount : ℕ → Type 0
IsNoCount n = (n ≡ 0) ⊎ (most_seats < n)

-- The fault is the first one that the numbers have. Memory runs out only for numbers that have none.
abbrev pub RefusedAs : ℕ → ℕ → ℕ → QueueFault → Type 0
RefusedAs capacity senders takers BadCapacity = IsNoCapacity capacity
RefusedAs capacity senders takers BadCounts = IsCapacity capacity × (IsNoCount senders ⊎ IsNoCount takers)
RefusedAs capacity senders takers OutOfMemory = IsCapacity capacity × IsCount senders × IsCount takers

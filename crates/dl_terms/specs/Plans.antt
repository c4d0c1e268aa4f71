-- How many plans you can serve at once.
use Rattle.std.specs.Prelude.{ℕ, ◌≤◌}

-- the most plans that you can serve at once
abbrev pub most_plans : ℕ
most_plans = 16

-- a number of plans that you can serve
pub record ArePlans (n : ℕ) : Type 0 where
  pub least : 1 ≤ n
  pub most : n ≤ most_plans

use Rattle.std.proofs.Common.{◌≡◌, ◌≤◌, length, take, vec_capacity}
use Rattle.dl_values.proofs.list.List+Job.copy_of.Given as goal

abbrev pub invariant-loop-job : goal.invariant-loop-job
invariant-loop-job l = (l.copies.items ≡ take l.job-index l.jobs) × (length l.jobs ≤ vec_capacity l.copies)

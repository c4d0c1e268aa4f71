use Rattle.std.proofs.Common.{Bool, true, false, ◌⊎◌, inl, inr, MatchBool}
use Rattle.dl_workers.proofs.worker.Worker.end_shown.Goals as goal

pub returns-in_default-clause-ended : goal.returns-in_default-clause-ended
returns-in_default-clause-ended g c = inl c.in_default.ensures.unchanged

-- the batch was ended, whether or not a cell refused its outcome
either : (A B : Type 0) (t : Bool) → A → MatchBool t A (B ⊎ A)
either A B true a = a
either A B false a = inr a

pub returns-clause-ended : goal.returns-clause-ended
returns-clause-ended g c = either _ _ _ c.in-Ok.ensures.ended

-- What a future of a load gives.
use Rattle.std.specs.Prelude.{◌≡◌, Option, Some, None, Result, Ok, Err, IfSome}
use Rattle.dl_values.specs.declared.outcome.Outcome.{Outcome}
use Rattle.dl_desk.specs.declared.event.Ending.{Ending}
use Rattle.dl_haxl.specs.declared.fault.PollFault.{PollFault}
use Rattle.dl_haxl.specs.declared.fault.PollFault.TheVariants.{Finished, OutOfMemory}

-- what each later poll answers: that an earlier one gave the outcome, or the fault again
abbrev pub end_after : {A : Type 0} → Result A PollFault → PollFault
end_after (Ok a) = Finished
end_after (Err fault) = fault

-- before its end: the outcome that the ticket shows, if it shows one, or out of memory; after it, its end
abbrev pub MayGive : Option PollFault → Option Ending → Result Outcome PollFault → Type 0
MayGive None known (Ok outcome) = IfSome known (λ ending. ending.outcome ≡ outcome)
MayGive None known (Err fault) = fault ≡ OutOfMemory
MayGive (Some ended) known (Ok outcome) = ⊥
MayGive (Some ended) known (Err fault) = fault ≡ ended

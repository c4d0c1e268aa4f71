-- Batches that were given up: they failed because memory ran out or their jobs weren't sent, not because the source broke.
use Rattle.std.specs.Prelude.{ℕ, List, [], ◌∷◌, flat_map}
use Rattle.dl_values.specs.declared.outcome.BatchFault.TheVariants.{Memory, Unsent, Source}
use Rattle.dl_desk.specs.declared.event.Call.{Call}
use Rattle.dl_desk.specs.declared.event.Call.TheVariants.{Fail}
use Rattle.dl_desk.specs.declared.event.Event.{Event}

-- the batch that the call gives up, if it gives up one
abbrev pub given_up_by : Call → List ℕ
given_up_by (Fail b Memory) = b ∷ []
given_up_by (Fail b Unsent) = b ∷ []
given_up_by (Fail b (Source text)) = []
given_up_by call = []

-- the batches that were given up, in the order of their ends
abbrev pub given_up : List Event → List ℕ
given_up events = flat_map (λ e. given_up_by e.call) events

-- What a recorded event leaves, before its caller gets its tickets and its cells end.
use Rattle.std.specs.Prelude.{◌≡◌, ℕ, [], ◌∷◌, ◌++◌, length}
use Rattle.std.specs.List.{repeat}
use Rattle.dl_desk.specs.declared.event.Event.{Event}
use Rattle.dl_history.specs.Journal.{Journal, waiting}
use Rattle.dl_history.specs.Pass.{Trace, with_call}

-- The event is the journal's last, with the cells that it begins, which wait, and the last call among the pass's entries, at its place.
pub record Recorded (before now : Journal) (old new : Trace) (event : Event) (begun : ℕ) : Type 0 where
  pub history : now.history ≡ before.history ++ event ∷ []
  pub cells : now.cells ≡ before.cells ++ repeat begun (waiting ∷ [])
  pub trace : new ≡ with_call old (length before.history) event

-- no event was made: the journal's events and cells and the trace are as they were
abbrev pub NothingMade : Journal → Journal → Trace → Trace → Type 0
NothingMade before now old new = (now.history ≡ before.history) × (now.cells ≡ before.cells) × (new ≡ old)

-- The outcomes that the tickets of keys show.
pub use Rattle.dl_terms.specs.Asked.{paired}
use Rattle.std.specs.Prelude.{◌≡◌, Bool, List, [], ◌∷◌, Option, Some, None, IfSome, is_some}
use Rattle.std.specs.List.{list_all, AllZip}
use Rattle.dl_values.specs.declared.outcome.Outcome.{Outcome}
use Rattle.dl_desk.specs.declared.event.Ending.{Ending}
use Rattle.dl_loader.specs.Pass.{Ticket}

-- the ticket later: of the same load, and it still shows what it showed
pub record Later (t u : Ticket) : Type 0 where
  pub number : u.number ≡ t.number
  pub reply : u.reply ≡ t.reply
  pub known : IfSome t.known (λ ending. u.known ≡ Some ending)

-- the same tickets, later
abbrev pub AllLater : List Ticket → List Ticket → Type 0
AllLater ts us = AllZip Later ts us

-- each of the tickets shows an outcome
abbrev pub all_show : List Ticket → Bool
all_show ts = list_all (λ (t : Ticket). is_some t.known) ts

abbrev pub with_shown : Option Ending → List Outcome → List Outcome
with_shown None os = os
with_shown (Some ending) os = ending.outcome ∷ os

-- the outcomes that the tickets show, in order
abbrev pub outcomes_shown : List Ticket → List Outcome
outcomes_shown [] = []
outcomes_shown (t ∷ ts) = with_shown t.known (outcomes_shown ts)

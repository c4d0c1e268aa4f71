-- The steps of a close.
use Rattle.std.specs.Prelude.{◌≡◌, ℕ, List, [], Option, None, Some, nat_le, ◌||◌, if◌then◌else◌}
use Rattle.dl_history.specs.Agreement.{Account, Fits, unshown}
use Rattle.dl_history.specs.ClosedHistory.{IsHistory, Outline, accounts_at, history_of}
use Rattle.dl_history.specs.History.{AllEnded}
use Rattle.dl_history.specs.Lists.{Every}
use Rattle.dl_desk.specs.Service.{Service}
use Rattle.dl_desk.specs.declared.event.Event.{Event}
use Rattle.dl_loader.specs.Book.{Book}
use Rattle.dl_loader.specs.declared.loader.close.PassFront.{PassFront}
use Rattle.dl_loader.specs.CloseRefusals.{TellWhole}

-- what was found of accounts that have seen more than so many events, and one account more with its front
abbrev pub earlier : ℕ → Option PassFront → PassFront → Option PassFront
earlier len None next = if nat_le next.front len then None else Some next
earlier len (Some found) next = if nat_le next.front len || nat_le found.caller next.caller then Some found else Some next

-- a loader with this book may be closed with the accounts
pub record MayClose (callers : ℕ) (b : Book) (accounts : List Account) : Type 0 where
  pub whole : TellWhole callers b.history accounts
  pub fits : Every (Fits callers b.history b.cells) accounts
  pub shown : unshown b.cells accounts ≡ []
  pub ended : AllEnded b.history

-- With these outlines the history has these accounts, and is what every history is.
pub record Closes (service : Service) (history : List Event) (accounts : List Account) (outlines : List Outline) : Type 0 where
  pub accounts_are : accounts_at history outlines ≡ accounts
  pub is_history : IsHistory service (history_of history accounts)

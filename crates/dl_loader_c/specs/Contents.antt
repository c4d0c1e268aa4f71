-- What is kept behind a handle: a loader that is open, or the history that it left.
use Rattle.std.specs.Prelude.{◌≡◌, Option, None, MatchOption, IsSomeAnd}
use mathlib.Core.Path.{refl}
use Rattle.std.specs.Coded.{Coded, code_by, coded×, coded_option}
use Rattle.std.specs.contracts.marker.Brand as Brand
use Rattle.dl_history.specs.ClosedHistory.{History}
use Rattle.dl_history.specs.contracts.history.History as history
use Rattle.dl_loader.specs.SerialLoader.{Serial}
use Rattle.dl_loader.specs.contracts.serial_loader.SerialLoader as serial
use Rattle.dl_loader_c.specs.Named.{name_ghosts, ledger_ghosts, no_loader}

pub record Contents : Type 0 where
  pub loader : Option Serial
  pub history : Option History

abbrev pub contents : Option Serial → Option History → Contents
contents loader history = record { loader = loader; history = history }

abbrev pub no_contents : Contents
no_contents = contents None None

-- a loader, whatever its name
abbrev serial_code : Coded Serial
serial_code = (serial.the_row Brand.the_row (name_ghosts Brand.the_row.Denot no_loader) (ledger_ghosts Brand.the_row.Denot no_loader)).coded

abbrev pub contents_code : Coded Contents
contents_code = code_by (Option Serial × Option History) (coded× (coded_option serial_code) (coded_option history.the_row.coded))
    (λ c. (c.loader, c.history)) (λ p. contents p.0 p.1) (λ _. refl)

-- The call is made on the loader, which stays open: what it was and what it is are told. If there is none, the contents stay, with
-- an answer that says so.
abbrev pub OnLoader : Contents → Contents → (Serial → Serial → Type 0) → Type 0 → Type 0
OnLoader old new Tells Closed = MatchOption old.loader ((new ≡ old) × Closed) (λ s. IsSomeAnd new.loader (Tells s))

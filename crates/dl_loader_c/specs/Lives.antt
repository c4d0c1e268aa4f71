-- Opening a loader, and closing it.
use Rattle.std.specs.Prelude.{◌≡◌, ℕ, ◌<◌, ◌⊎◌, List, [], None, Some, true, false, map}
use Rattle.dl_values.specs.Limits.{Limits, Rules, AreLimits}
use Rattle.dl_desk.specs.Service.{Service}
use Rattle.dl_history.specs.Accounts.{account_of}
use Rattle.dl_history.specs.ClosedHistory.{History, IsHistory}
use Rattle.dl_history.specs.Flags.{known_flags}
use Rattle.dl_history.specs.Pass.{new_traces}
use Rattle.dl_history.specs.declared.fault.CloseFault.{CloseFault}
use Rattle.dl_loader.specs.CloseRefusals.{RefusesClose}
use Rattle.dl_loader.specs.Opening.{AreCallers}
use Rattle.dl_loader.specs.SerialLoader.{Serial}
use Rattle.dl_c_values.specs.declared.codes.TheConstants.{DONE, OPEN, BAD_LIMIT, BAD_CALLERS, OUT_OF_MEMORY}
use Rattle.dl_loader_c.specs.declared.handle.Handle.{Handle}
use Rattle.dl_loader_c.specs.declared.openings.SerialOpening.{SerialOpening}
use Rattle.dl_c_values.specs.declared.tables.NamedLimit.{NamedLimit}
use Rattle.dl_loader_c.specs.Codes.{close_code}
use Rattle.dl_loader_c.specs.Contents.{Contents, contents}
use Rattle.dl_c_values.specs.Tables.{AreNames, AreLimitsOf, IsTablesFault, tables_of}

-- ---- open

abbrev pub limits_of : SerialOpening → Limits
limits_of o = record { max_batch = o.max_batch; max_cells = o.max_cells; max_calls = o.max_calls }

-- a loader of so many callers that has had no call
pub record IsNewLoader (callers : ℕ) (s : Serial) : Type 0 where
  pub history : s.book.history ≡ []
  pub flags : s.book.flags ≡ known_flags false false
  pub traces : s.traces ≡ new_traces 0 callers

-- the contents are such a loader
abbrev pub AreNew : ℕ → Contents → Type 0
AreNew callers c = (s : Serial) × (c ≡ contents (Some s) None) × IsNewLoader callers s

-- a handle with a new loader of so many callers and these rules
pub record IsNew (callers : ℕ) (IsRules : Rules → Type 0) (h : Handle) : Type 0 where
  pub is_open : h.is_open ≡ true
  pub callers_are : h.held.name.callers ≡ callers
  pub rules : IsRules h.held.name.rules
  pub are_new : AreNew callers h.held.kept

-- the answer to an open, which Fault refuses where the handle is closed
pub record AnswersOpen (callers : ℕ) (IsRules : Rules → Type 0) (IsFault : ℕ → Type 0) (code : ℕ) (old new : Handle) : Type 0 where
  pub open_before : old.is_open ≡ true → (code ≡ OPEN) × (new ≡ old)
  pub done : old.is_open ≡ false → code ≡ DONE → AreCallers callers × IsNew callers IsRules new
  pub refused : old.is_open ≡ false → DONE < code → IsFault code × (new ≡ old)

-- why a loader isn't opened: a number is no limit, there can't be as many callers, or memory is short
abbrev pub IsOpenFault : SerialOpening → ℕ → Type 0
IsOpenFault o code =
    ((code ≡ BAD_LIMIT) × ¬ (AreLimits (limits_of o))) ⊎ (((code ≡ BAD_CALLERS) × ¬ (AreCallers o.callers)) ⊎ (code ≡ OUT_OF_MEMORY))

-- ---- open by table

-- each batch is of one table, and the tables have these limits of their own
abbrev pub AreRulesOf : Limits → List ℕ → List NamedLimit → Rules → Type 0
AreRulesOf limits names ls rules = AreNames names ls × (rules.limits ≡ limits) × AreLimitsOf rules.tables (tables_of names ls)

-- the same, or the tables have none
abbrev pub IsByTableFault : SerialOpening → List ℕ → List NamedLimit → ℕ → Type 0
IsByTableFault o names ls code = IsOpenFault o code ⊎ IsTablesFault names ls code

-- ---- close

-- What a close leaves: a history that a loader of one thread could have had, with the loader's events, and what each caller called
-- and saw as its account; or, where it is refused, the loader as it was.
pub record AnswersClose (service : Service) (s : Serial) (code : ℕ) (new : Contents) : Type 0 where
  pub closed : code ≡ DONE → (h : History) × (new ≡ contents None (Some h)) × IsHistory service h × (h.events ≡ s.book.history)
      × (h.accounts ≡ map account_of s.traces)
  pub refused : DONE < code → (new.loader ≡ Some s)
      × ((fault : CloseFault) × (code ≡ close_code fault) × RefusesClose service.callers s.book (map account_of s.traces) fault)

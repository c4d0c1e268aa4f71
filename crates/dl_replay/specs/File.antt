-- The file that a host writes of its history: two lines of JSON. The first is a call script, with the calls of all callers in their order.
-- The second says of each call who made it, and what it was answered.
use Rattle.std.specs.Prelude.{◌≡◌, ◌==◌, ℕ, Bool, List, length, map, Some}
use Rattle.std.specs.List.{before_first, after_first}
use Rattle.serde_json.specs.Data.{Data}
use Rattle.dl_values.specs.Limits.{rules_by}
use Rattle.dl_desk.specs.Service.{Service}
use Rattle.dl_documents.specs.Document.{IsTextOf, Spells}
use Rattle.dl_documents.specs.Faults.{Applies, IsLeast}
use Rattle.dl_documents.specs.declared.fault.PlanFault.TheVariants as plan
use Rattle.dl_documents.specs.declared.input.Input.TheVariants as input
use Rattle.dl_documents.specs.declared.input.PlanFile.{PlanFile}
use Rattle.dl_documents.specs.declared.input.Script.{Script}
use Rattle.dl_history.specs.ClosedHistory.{History, IsHistory}
use Rattle.dl_replay.specs.Reading.{told_in, told_view}
use Rattle.dl_replay.specs.Replay.{IsReplayFault}
use Rattle.dl_replay.specs.Told.{line_of, lines}
use Rattle.dl_replay.specs.declared.fault.HistoryFault.{HistoryFault}
use Rattle.dl_replay.specs.declared.fault.HistoryFault.TheVariants.{Refused, NoScript, Answers, Replay, OutOfMemory}
use Rattle.dl_replay.specs.declared.told.Told.{Told}

abbrev pub ends_line : ℕ → Bool
ends_line b = b == 10

-- the bytes before the first line feed, and those behind it
abbrev pub first_line : List ℕ → List ℕ
first_line bytes = before_first ends_line bytes

abbrev pub next_lines : List ℕ → List ℕ
next_lines bytes = after_first ends_line bytes

-- a line is a call script
abbrev pub IsScript : List ℕ → Script → Type 0
IsScript line s = (d : Data) × IsTextOf line d × Spells d (input.Script s)

-- lines tell something of each call of a script
abbrev pub AreTold : List ℕ → Script → List Told → Type 0
AreTold next s told = (d : Data) × IsTextOf next d × (told_in d ≡ Some (map told_view told)) × (length s.calls ≡ length told)

-- a loader by the limits of the script
abbrev pub ServesBy : Script → Service → Type 0
ServesBy s service = service.rules ≡ rules_by s.limits s.table_limits

-- The history that a file has: one that a loader of one thread could have had, whose events are the calls as they are told.
pub record IsHistoryOf (bytes : List ℕ) (h : History) : Type 0 where
  pub script : Script
  pub is_script : IsScript (first_line bytes) script
  pub told : List Told
  pub are_told : AreTold (next_lines bytes) script told
  pub service : Service
  pub serves : ServesBy script service
  pub history : IsHistory service h
  pub events : map line_of h.events ≡ lines script.calls told

-- why a line is no call script: it is no document, or a plan file
abbrev pub IsScriptFault : List ℕ → HistoryFault → Type 0
IsScriptFault line (Refused fault) = IsLeast (Applies line) fault
IsScriptFault line NoScript = (file : PlanFile) × (d : Data) × IsTextOf line d × Spells d (input.Plans file)
IsScriptFault line Answers = ⊥
IsScriptFault line (Replay fault) = ⊥
IsScriptFault line OutOfMemory = Unit {0}

-- why lines don't tell of each call of a script
abbrev pub IsToldFault : List ℕ → Script → HistoryFault → Type 0
IsToldFault next s (Refused fault) = ⊥
IsToldFault next s NoScript = ⊥
IsToldFault next s Answers = (told : List Told) → AreTold next s told → ⊥
IsToldFault next s (Replay fault) = ⊥
IsToldFault next s OutOfMemory = Unit {0}

-- Why a file has no history: its first line is no call script; else its other lines don't tell of each call; else an event is wrong, or a
-- batch hasn't ended.
abbrev pub IsFileFault : List ℕ → HistoryFault → Type 0
IsFileFault bytes (Replay fault) = (s : Script) × (told : List Told) × (service : Service) × IsScript (first_line bytes) s
    × AreTold (next_lines bytes) s told × ServesBy s service × IsReplayFault service s.calls told fault
IsFileFault bytes Answers = (s : Script) × IsScript (first_line bytes) s × IsToldFault (next_lines bytes) s Answers
IsFileFault bytes (Refused fault) = IsScriptFault (first_line bytes) (Refused fault)
IsFileFault bytes NoScript = IsScriptFault (first_line bytes) NoScript
IsFileFault bytes OutOfMemory = Unit {0}

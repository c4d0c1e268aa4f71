-- Why an event call is refused.
use Rattle.std.specs.Prelude.{◌≡◌, ◌⊎◌, Bool, List, length, Option, Some, None, option_map, if◌then◌else◌, nat_lt, nat_le}
use Rattle.std.specs.Cmp.Lexicographic.{pointwise}
use Rattle.std.specs.Option.{option_or}
use Rattle.dl_values.specs.Key.{Key, key_eq}
use Rattle.dl_values.specs.Limits.{Rules}
use Rattle.dl_desk.specs.Events.{atoms}
use Rattle.dl_desk.specs.History.{Atom}
use Rattle.dl_desk.specs.Calls as desk
use Rattle.dl_values.specs.declared.job.Job.{Job}
use Rattle.dl_desk.specs.Service.{Service}
use Rattle.dl_desk.specs.Legal.{keys_of, call_of}
use Rattle.dl_history.specs.History.{past}
use Rattle.dl_history.specs.Entries.{front_of}
use Rattle.dl_history.specs.Pass.{Trace}
use Rattle.dl_loader.specs.Book.{Book}
use Rattle.dl_desk.specs.declared.event.Call.{Call}
use Rattle.dl_history.specs.declared.fault.CallFault.{CallFault}
use Rattle.dl_history.specs.declared.fault.CallFault.TheVariants.{Stopped, Behind, LogFull, WrongKeys, OutOfMemory, LogRefused}
use Rattle.dl_history.specs.Faults.{call_fault}

-- Why a pass may make no event at all: the loader is stopped, the pass has seen more events than there are, or the history is full.
abbrev pub unready : Service → Book → Trace → Option CallFault
unready service b p =
    if b.flags.stopped then Some Stopped
    else if nat_lt (length b.history) (front_of p.entries) then Some (Behind (front_of p.entries) (length b.history))
    else if nat_le service.rules.limits.max_calls (length b.history) then Some (LogFull service.rules.limits.max_calls)
    else None

-- whether two lists have the same keys, in order
abbrev pub same_keys : List Key → List Key → Bool
same_keys ks js = pointwise key_eq ks js

-- the refusal of an end by a job whose keys aren't those of its batch
abbrev pub wrong_keys : List Atom → Option Job → Option CallFault
wrong_keys history None = None
wrong_keys history (Some job) = if same_keys job.keys (keys_of history job.batch) then None else Some WrongKeys

-- the refusal of a call at a history, perhaps with a job that it ends
abbrev pub cause : Rules → List Atom → Call → Option Job → Option CallFault
cause rules history call job = option_or (option_map call_fault (desk.refusal rules history (call_of call))) (wrong_keys history job)

-- The refusal of a call, perhaps with a job that it ends: the first cause that applies, unless memory runs out or the
-- log refuses the event.
abbrev pub refusal : Service → Book → Trace → Call → Option Job → Option CallFault
refusal service b p call job = option_or (unready service b p) (cause service.rules (atoms (past b.history)) call job)

-- The fault of a refused call: its cause, that memory ran out, or, if it has no cause, that the log refused its event.
abbrev pub IsRefusal : Service → Book → Trace → Call → Option Job → CallFault → Type 0
IsRefusal service b p call job fault =
    (fault ≡ OutOfMemory) ⊎ ((fault ≡ LogRefused) × (refusal service b p call job ≡ None)) ⊎ (refusal service b p call job ≡ Some fault)

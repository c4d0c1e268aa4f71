-- A call that is refused as stopped is refused by a book that is stopped.
use Rattle.std.proofs.Common.{◌≡◌, ℕ, Bool, true, false, cond, length, Option, Some, None, nat_lt, nat_le, refl, List, inl, inr, ap, sym, ◌∙◌}
use Rattle.std.specs.Prelude.{option_map}
use Rattle.std.specs.Option.{option_or}
use Rattle.dl_values.specs.declared.job.Job.{Job}
use Rattle.dl_desk.specs.Calls as desk
use Rattle.dl_desk.specs.Events.{atoms}
use Rattle.dl_desk.specs.History.{Atom}
use Rattle.dl_desk.specs.declared.fault.DeskFault.{DeskFault}
use Rattle.dl_desk.specs.declared.fault.DeskFault.TheVariants as desk_fault
use Rattle.dl_history.specs.Entries.{front_of}
use Rattle.dl_history.specs.Faults.{call_fault}
use Rattle.dl_desk.specs.Legal.{keys_of, call_of}
use Rattle.dl_history.specs.History.{past}
use Rattle.dl_history.specs.Pass.{Trace}
use Rattle.dl_desk.specs.Service.{Service}
use Rattle.dl_desk.specs.declared.event.Call.{Call}
use Rattle.dl_history.specs.declared.fault.CallFault.{CallFault}
use Rattle.dl_history.specs.declared.fault.CallFault.TheVariants.{Stopped, Behind, LogFull, WrongKeys, NoBatch, NotSent, SettledBefore, CellsFull, OutOfMemory, LogRefused}
use Rattle.dl_loader.specs.Book.{Book}
use Rattle.dl_loader.specs.EventEffect.{KnowsStop}
use Rattle.dl_loader.specs.Refusals.{IsRefusal, cause, wrong_keys, same_keys}

-- no refusal of a desk is a stop
desk_no_stop : (fault : DeskFault) → call_fault fault ≡ Stopped → ⊥
desk_no_stop desk_fault.NoBatch e = let bad : ◌≡◌ {A = CallFault} NoBatch Stopped = e in cc
desk_no_stop desk_fault.NotSent e = let bad : ◌≡◌ {A = CallFault} NotSent Stopped = e in cc
desk_no_stop desk_fault.SettledBefore e = let bad : ◌≡◌ {A = CallFault} SettledBefore Stopped = e in cc
desk_no_stop (desk_fault.CellsFull limit) e = let bad : ◌≡◌ {A = CallFault} (CellsFull limit) Stopped = e in cc
desk_no_stop desk_fault.OutOfMemory e = let bad : ◌≡◌ {A = CallFault} OutOfMemory Stopped = e in cc

-- nor is one for wrong keys
keys_no_stop : (same : Bool) → cond same None (Some WrongKeys) ≡ Some Stopped → ⊥
keys_no_stop true e = let bad : ◌≡◌ {A = Option CallFault} None (Some Stopped) = e in cc
keys_no_stop false e = let bad : ◌≡◌ {A = Option CallFault} (Some WrongKeys) (Some Stopped) = e in cc

job_no_stop : (history : List Atom) (job : Option Job) → wrong_keys history job ≡ Some Stopped → ⊥
job_no_stop history None e = let bad : ◌≡◌ {A = Option CallFault} None (Some Stopped) = e in cc
job_no_stop history (Some job) e = keys_no_stop (same_keys job.keys (keys_of history job.batch)) e

cause_no_stop : (history : List Atom) (job : Option Job) (fault : Option DeskFault)
    → option_or (option_map call_fault fault) (wrong_keys history job) ≡ Some Stopped → ⊥
cause_no_stop history job None e = job_no_stop history job e
cause_no_stop history job (Some fault) e = desk_no_stop fault (let some : ◌≡◌ {A = Option CallFault} (Some (call_fault fault)) (Some Stopped) = e in cc)

-- a refusal that is a stop comes first, from a book that is stopped
stop_first : (limit front len : ℕ) (stopped behind full : Bool) (other : Option CallFault) → (other ≡ Some Stopped → ⊥)
    → option_or (cond stopped (Some Stopped) (cond behind (Some (Behind front len)) (cond full (Some (LogFull limit)) None))) other ≡ Some Stopped
    → stopped ≡ true
stop_first limit front len true behind full other none e = refl
stop_first limit front len false true full other none e = absurd (let bad : ◌≡◌ {A = Option CallFault} (Some (Behind front len)) (Some Stopped) = e in cc)
stop_first limit front len false false true other none e = absurd (let bad : ◌≡◌ {A = Option CallFault} (Some (LogFull limit)) (Some Stopped) = e in cc)
stop_first limit front len false false false other none e = absurd (none e)

pub refused_by_stop : (s : Service) (b : Book) (p : Trace) (call : Call) (job : Option Job) (fault : CallFault) → IsRefusal s b p call job fault
    → KnowsStop b.flags fault
refused_by_stop s b p call job fault (inl memory) = λ stop. absurd (let bad : ◌≡◌ {A = CallFault} OutOfMemory Stopped = sym memory ∙ stop in cc)
refused_by_stop s b p call job fault (inr (inl log)) = λ stop. absurd (let bad : ◌≡◌ {A = CallFault} LogRefused Stopped = sym log.0 ∙ stop in cc)
refused_by_stop s b p call job fault (inr (inr why)) =
    λ stop. stop_first s.rules.limits.max_calls (front_of p.entries) (length b.history) b.flags.stopped
    (nat_lt (length b.history) (front_of p.entries)) (nat_le s.rules.limits.max_calls (length b.history))
    (cause s.rules (atoms (past b.history)) call job)
    (cause_no_stop (atoms (past b.history)) job (desk.refusal s.rules (atoms (past b.history)) (call_of call))) (why ∙ ap Some stop)

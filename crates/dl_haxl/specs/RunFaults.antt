-- Why an evaluation gives no answer.
use Rattle.std.specs.Prelude.{◌≡◌, ◌⊎◌, ℕ, true, Option}
use Rattle.dl_values.specs.declared.job.Job.{Job}
use Rattle.dl_history.specs.Flags.{KnownFlags}
use Rattle.dl_desk.specs.Service.{Service}
use Rattle.dl_desk.specs.declared.event.Call as event
use Rattle.dl_loader.specs.EventEffect.{KnowsStop, WasRefused}
use Rattle.dl_loader.specs.Pass.{Trace}
use Rattle.dl_history.specs.declared.fault.CallFault.{CallFault}
use Rattle.dl_haxl.specs.declared.fault.RunFault.{RunFault}
use Rattle.dl_haxl.specs.declared.fault.RunFault.TheVariants.{Call, Stopped, OutOfMemory}

-- the loader refused some call of the caller for this, with the job that the call would have ended, if it is an end
abbrev pub SomeCallRefused : Service → ℕ → KnownFlags → CallFault → Type 0
SomeCallRefused service caller flags fault =
    (p : Trace) × (call : event.Call) × (job : Option Job) × (p.caller ≡ caller) × WasRefused service p call job fault × KnowsStop flags fault

-- The loader refused a call of the caller; the caller knows that the loader is stopped, or that a cell refused its
-- outcome; or memory ran out.
abbrev pub IsRunFault : Service → ℕ → KnownFlags → RunFault → Type 0
IsRunFault service caller flags (Call fault) = SomeCallRefused service caller flags fault
IsRunFault service caller flags Stopped = (flags.stopped ≡ true) ⊎ (flags.refused ≡ true)
IsRunFault service caller flags OutOfMemory = Unit {0}

-- Why plans aren't served.
use Rattle.std.specs.Prelude.{◌≡◌, ℕ, ◌+◌, ◌<◌, ◌≤◌, ◌⊎◌, List, length, Option, Some, slice_get}
use Rattle.dl_history.specs.Agreement.{Account}
use Rattle.dl_history.specs.Flags.{KnownFlags}
use Rattle.dl_desk.specs.Service.{Service}
use Rattle.dl_haxl.specs.RunFaults.{IsRunFault}
use Rattle.dl_haxl.specs.declared.fault.RunFault.{RunFault}
use Rattle.dl_haxl.specs.declared.fault.RunFault.TheVariants as run
use Rattle.dl_loader.specs.Book.{Keeps, Book}
use Rattle.dl_loader.specs.CloseRefusals.{IsLeastOf, RefusesClose}
use Rattle.dl_history.specs.declared.fault.CallFault.TheVariants as call
use Rattle.dl_history.specs.declared.fault.CloseFault.{CloseFault}
use Rattle.dl_history.specs.declared.fault.StartFault.TheVariants as start
use Rattle.dl_terms.specs.Plans.{ArePlans, most_plans}
use Rattle.dl_terms.specs.declared.plan.Plan.{Plan}
use Rattle.dl_workers.specs.QueueFaults as queue
use Rattle.dl_workers.specs.declared.worker.WorkerEnd.{WorkerEnd}
use Rattle.dl_workers.specs.declared.worker.WorkerEnd.TheVariants as end
use Rattle.dl_scope.specs.Headline.{HeadlineBut}
use Rattle.dl_scope.specs.Report.{Report}
use Rattle.dl_scope.specs.declared.fault.ScopeFault.{ScopeFault}
use Rattle.dl_scope.specs.declared.fault.ScopeFault.TheVariants.{NoPlans, TooManyPlans, BadWorkers, Start, Queue, Run, Stopped, Close, Unfetched, OutOfMemory}
use Rattle.dl_scope.specs.declared.setup.Setup.{Setup}

-- the most fetch workers
abbrev pub most_workers : ℕ
most_workers = 16

-- a number of fetch workers that you can have
pub record AreWorkers (n : ℕ) : Type 0 where
  pub least : 1 ≤ n
  pub most : n ≤ most_workers

-- the setup can serve this many plans: this number, that of workers and the queue's capacity are in range
pub record MayServe (setup : Setup) (plans : ℕ) : Type 0 where
  pub plans_are : ArePlans plans
  pub workers_are : AreWorkers setup.workers
  pub capacity : queue.IsCapacity setup.queue

-- the fault says only that the loader was stopped
abbrev pub IsStop : RunFault → Type 0
IsStop fault = (fault ≡ run.Stopped) ⊎ (fault ≡ run.Call call.Stopped)

-- ---- how plans and workers ended: for each plan the fault that it met, if it met one, and for each worker its end

-- the plan met the fault
abbrev pub Met : List (Option RunFault) → ℕ → RunFault → Type 0
Met faults plan fault = slice_get faults plan ≡ Some (Some fault)

abbrev pub AnyMet : List (Option RunFault) → Type 0
AnyMet faults = (plan : ℕ) × (fault : RunFault) × Met faults plan fault

abbrev pub AnyGaveUp : List WorkerEnd → Type 0
AnyGaveUp ends = (n : ℕ) × (batch : ℕ) × (slice_get ends n ≡ Some (end.GaveUp batch))

-- The plan met the fault, which is its own: no stop. None before it met one of its own.
pub record IsLeastFault (faults : List (Option RunFault)) (plan : ℕ) (fault : RunFault) : Type 0 where
  pub met : Met faults plan fault
  pub own : IsStop fault → ⊥
  pub least : (n : ℕ) (other : RunFault) → n < plan → Met faults n other → IsStop other

-- No plan met a fault of its own, and one met a stop or a worker gave up.
pub record WereStopped (faults : List (Option RunFault)) (ends : List WorkerEnd) : Type 0 where
  pub none_own : (n : ℕ) (fault : RunFault) → Met faults n fault → IsStop fault
  pub some : AnyMet faults ⊎ AnyGaveUp ends

-- a fault that an evaluation of the caller may meet, whatever it knows of its loader's flags
abbrev pub MayMeet : Service → ℕ → RunFault → Type 0
MayMeet service caller fault = (flags : KnownFlags) × IsRunFault service caller flags fault

-- this many plans and workers have these ends, and if a plan met a fault, then one that an evaluation of its caller may
-- meet
pub record AreEnds (service : Service) (plans workers : ℕ) (faults : List (Option RunFault)) (ends : List WorkerEnd) : Type 0 where
  pub each_plan : length faults ≡ plans
  pub each_worker : length ends ≡ workers
  pub may_be : (n : ℕ) (fault : RunFault) → Met faults n fault → MayMeet service n fault

-- there are such ends, and P holds of them
abbrev pub EndedSo : Service → ℕ → ℕ → (List (Option RunFault) → List WorkerEnd → Type 0) → Type 0
EndedSo service plans workers P = (faults : List (Option RunFault)) × (ends : List WorkerEnd) × AreEnds service plans workers faults ends × P faults ends

-- ---- refusals

-- some loader of the service refuses its close for this
abbrev pub RefusesItsClose : Service → CloseFault → Type 0
RefusesItsClose service fault = (b : Book) × (accounts : List Account) × Keeps service b × RefusesClose service.callers b accounts fault

-- some report has all else of the headline, and this is the least of the batches that were given up
abbrev pub LeastGivenUp : Service → List Plan → ℕ → Type 0
LeastGivenUp service plans batch = (batches : List ℕ) × (r : Report) × HeadlineBut batches service plans r × IsLeastOf (Some batch) batches

-- The fault is the first that the plans and the setup have. Later ones come only if these have none. A plan in a fault
-- is the least that met a fault of its own, and `Stopped` comes only if none did.
abbrev pub RefusedAs : Service → Setup → List Plan → ScopeFault → Type 0
RefusedAs service setup plans NoPlans = length plans ≡ 0
RefusedAs service setup plans TooManyPlans = most_plans < length plans
RefusedAs service setup plans BadWorkers = ArePlans (length plans) × ((setup.workers ≡ 0) ⊎ (most_workers < setup.workers))
RefusedAs service setup plans (Start fault) = ArePlans (length plans) × AreWorkers setup.workers × (fault ≡ start.OutOfMemory)
RefusedAs service setup plans (Queue fault) =
    ArePlans (length plans) × AreWorkers setup.workers × queue.RefusedAs setup.queue (length plans + 1) setup.workers fault
RefusedAs service setup plans (Run plan fault) =
    MayServe setup (length plans) × EndedSo service (length plans) setup.workers (λ faults ends. IsLeastFault faults plan fault)
RefusedAs service setup plans Stopped = MayServe setup (length plans) × EndedSo service (length plans) setup.workers WereStopped
RefusedAs service setup plans (Close fault) = MayServe setup (length plans) × RefusesItsClose service fault
RefusedAs service setup plans (Unfetched batch) = MayServe setup (length plans) × LeastGivenUp service plans batch
RefusedAs service setup plans OutOfMemory = MayServe setup (length plans)

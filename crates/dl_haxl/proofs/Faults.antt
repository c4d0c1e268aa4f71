-- Why an evaluation gives no answer, said of the caller of another trace.
use Rattle.std.proofs.Common.{◌≡◌, subst, ℕ, inl, inr, refl, Some}
use Rattle.dl_values.specs.declared.job.Job.{Job}
use Rattle.dl_history.specs.Flags.{KnownFlags}
use Rattle.dl_desk.specs.Service.{Service}
use Rattle.dl_loader.specs.Pass.{Trace}
use Rattle.dl_history.specs.declared.fault.CallFault.{CallFault}
use Rattle.dl_loader.specs.EventEffect.{KnowsStop}
use Rattle.dl_loader.specs.JobEnd.{WasNotEnded, end_unanswered}
use Rattle.dl_haxl.specs.RunFaults.{IsRunFault, SomeCallRefused}
use Rattle.dl_haxl.specs.declared.fault.RunFault.{RunFault}

-- the same caller's
pub fault_of_same : (s : Service) (now old : ℕ) (flags : KnownFlags) (fault : RunFault) → now ≡ old → IsRunFault s now flags fault
    → IsRunFault s old flags fault
fault_of_same s now old flags fault same why = subst (λ n. IsRunFault s n flags fault) same why

-- an end of a job that was refused
pub not_ended : (s : Service) (p : Trace) (flags : KnownFlags) (job : Job) (fault : CallFault) → WasNotEnded s p job fault → KnowsStop flags fault
    → SomeCallRefused s p.caller flags fault
not_ended s p flags job fault (inl (call, is, refused)) knows = (p, call, Some job, refl, refused, knows)
not_ended s p flags job fault (inr refused) knows = (p, end_unanswered job, Some job, refl, refused, knows)

-- How a caller ends the batch of a job: by what the loader's source may answer to the job's keys, or as one that failed since memory ran out.
use Rattle.std.specs.Prelude.{◌≡◌, ◌⊎◌, ℕ, List, [], ◌∷◌, take, Some, slice_get}
use Rattle.dl_values.specs.Answering.{MayAnswer}
use Rattle.dl_values.specs.declared.outcome.BatchAnswer.{BatchAnswer}
use Rattle.dl_values.specs.declared.outcome.BatchFault.TheVariants.{Memory}
use Rattle.dl_values.specs.declared.job.Job.{Job}
use Rattle.dl_loader.specs.Additions.{call_entry}
use Rattle.dl_loader.specs.Asks.{end_by}
use Rattle.dl_loader.specs.EventEffect.{WasMade, WasRefused}
use Rattle.dl_loader.specs.Pass.{Trace}
use Rattle.dl_history.specs.Entries.{Entry}
use Rattle.dl_desk.specs.Service.{Service}
use Rattle.dl_desk.specs.declared.event.Call.{Call}
use Rattle.dl_desk.specs.declared.event.Call.TheVariants.{Fail}
use Rattle.dl_desk.specs.declared.event.Reply.TheVariants.{Done}
use Rattle.dl_history.specs.declared.fault.CallFault.{CallFault}

-- the call ends a job's batch by an answer that the source may give to the job's keys
abbrev pub IsEndAnswered : Service → Job → Call → Type 0
IsEndAnswered service job call = (a : BatchAnswer) × MayAnswer service.answer job.keys a × (call ≡ end_by job.batch a)

-- its end if there is no memory for that
abbrev pub end_unanswered : Job → Call
end_unanswered job = Fail job.batch Memory

-- one call was made, one of these two
abbrev pub WasEnded : Service → Trace → Job → Trace → Type 0
WasEnded service old job new =
    ((call : Call) × IsEndAnswered service job call × WasMade service old call Done new) ⊎ WasMade service old (end_unanswered job) Done new

-- one of the two was refused so
abbrev pub WasNotEnded : Service → Trace → Job → CallFault → Type 0
WasNotEnded service p job fault =
    ((call : Call) × IsEndAnswered service job call × WasRefused service p call (Some job) fault) ⊎ WasRefused service p (end_unanswered job) (Some job) fault

-- such a call was made for each of the jobs, in order, and no other
abbrev pub WereEnded : Service → Trace → List Job → Trace → Type 0
WereEnded service old [] new = new ≡ old
WereEnded service old (job ∷ jobs) new = (next : Trace) × WasEnded service old job next × WereEnded service next jobs new

-- the same for the jobs before one of them, and for that one such a call was refused so
abbrev pub WereEndedBefore : Service → Trace → List Job → Trace → CallFault → Type 0
WereEndedBefore service old jobs new fault =
    (n : ℕ) × (job : Job) × (slice_get jobs n ≡ Some job) × WereEnded service old (take n jobs) new × WasNotEnded service new job fault

-- ---- entries of such calls

-- the entry of the end of a job
abbrev pub IsEndOf : Service → ℕ → Job → Entry → Type 0
IsEndOf service caller job entry =
    (at : ℕ) × (call : Call) × (IsEndAnswered service job call ⊎ (call ≡ end_unanswered job)) × (entry ≡ call_entry caller at call Done)

-- one end of each job, in order, and nothing else
abbrev pub AreEndsOf : Service → ℕ → List Job → List Entry → Type 0
AreEndsOf service caller [] [] = Unit {0}
AreEndsOf service caller [] (entry ∷ entries) = ⊥
AreEndsOf service caller (job ∷ jobs) [] = ⊥
AreEndsOf service caller (job ∷ jobs) (entry ∷ entries) = IsEndOf service caller job entry × AreEndsOf service caller jobs entries

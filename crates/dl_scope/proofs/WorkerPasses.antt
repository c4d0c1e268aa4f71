-- What a worker adds to its pass: ends of batches, and nothing else.
use Rattle.std.proofs.Common.{◌≡◌, ◌∙◌, ap, subst, sym, refl, ℕ, List, [], ◌∷◌, ◌++◌, append_assoc, append-nil, inl, inr}
use Rattle.dl_values.specs.declared.outcome.BatchAnswer.{BatchAnswer}
use Rattle.dl_values.specs.declared.outcome.BatchAnswer.TheVariants.{Each, Break}
use Rattle.dl_values.specs.declared.job.Job.{Job}
use Rattle.dl_history.specs.Lists.{Every}
use Rattle.dl_desk.specs.Service.{Service}
use Rattle.dl_desk.specs.declared.event.Call.{Call}
use Rattle.dl_desk.specs.declared.event.Reply.TheVariants.{Done}
use Rattle.dl_history.proofs.ListLemmas.{every_append}
use Rattle.dl_loader.specs.Additions.{Adds, call_entry}
use Rattle.dl_loader.specs.Asks.{end_by}
use Rattle.dl_loader.specs.EventEffect.{WasMade}
use Rattle.dl_loader.specs.Pass.{Trace}
use Rattle.dl_loader.proofs.AdditionLemmas.{made_adds}
use Rattle.dl_loader.specs.JobEnd.{WasEnded, WereEnded, end_unanswered}
use Rattle.dl_workers.specs.WorkerResult.{Worked}
use Rattle.dl_workers.specs.declared.worker.WorkerEnd.{WorkerEnd}
use Rattle.dl_workers.specs.declared.worker.WorkerEnd.TheVariants as end
use Rattle.dl_scope.specs.Headline.{Ends, TellsEnd}

-- however the source answered, the call ends the batch
ends_by : (b : ℕ) (answer : BatchAnswer) → Ends b (end_by b answer)
ends_by b (Each os) = refl
ends_by b (Break text) = refl

abbrev pub AddsEnds : Trace → Trace → Type 0
AddsEnds old new = Adds old new (λ lines. Every TellsEnd lines)

adds_none : (old new : Trace) → new ≡ old → AddsEnds old new
adds_none old new same = (ap (λ (p : Trace). p.caller) same, [], ap (λ (p : Trace). p.entries) same ∙ sym (append-nil old.entries), tt)

adds_one : (s : Service) (old new : Trace) (call : Call) (b : ℕ) → Ends b call → WasMade s old call Done new → AddsEnds old new
adds_one s old new call b ends made =
    let one = made_adds s old new call Done made in
    (one.1, call_entry old.caller one.0 call Done ∷ [], one.2, ((b, ends), tt))

adds_then : (old now new : Trace) → AddsEnds old now → AddsEnds now new → AddsEnds old new
adds_then old now new (caller, lines, entries, ends) (caller2, more, entries2, ends2) = (
  caller2 ∙ caller,
  lines ++ more,
  entries2 ∙ (ap (λ ls. ls ++ more) entries ∙ append_assoc old.entries lines more),
  every_append TellsEnd lines
      more ends ends2,
)

ended_adds : (s : Service) (old new : Trace) (job : Job) → WasEnded s old job new → AddsEnds old new
ended_adds s old new job (inl (call, is, made)) = adds_one s old new call job.batch (subst (Ends job.batch) (sym is.2) (ends_by job.batch is.0)) made
ended_adds s old new job (inr unanswered) = adds_one s old new (end_unanswered job) job.batch refl unanswered

all_ended_add : (s : Service) (old new : Trace) (jobs : List Job) → WereEnded s old jobs new → AddsEnds old new
all_ended_add s old new [] same = adds_none old new same
all_ended_add s old new (job ∷ jobs) (next, one, others) = adds_then old next new (ended_adds s old next job one) (all_ended_add s next new jobs others)

-- however a worker ended
pub worked_adds : (s : Service) (how : WorkerEnd) (before after : List Job) (old new : Trace) → Worked s how before after old new → AddsEnds old new
worked_adds s (end.Done batches) before after old new worked = all_ended_add s old new worked.jobs worked.ended
worked_adds s (end.GaveUp batch) before after old new worked = elim worked.ended [
  | inl jobs ↦ all_ended_add s old new worked.jobs jobs
  | inr more ↦ all_ended_add s old new (worked.jobs ++ worked.job ∷ []) more
]

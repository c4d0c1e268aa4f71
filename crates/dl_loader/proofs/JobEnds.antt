-- Ends of jobs, one after another.
use Rattle.std.proofs.Common.{◌≡◌, ◌∙◌, sym, subst, refl, ◌<◌, List, [], ◌∷◌, ◌++◌, length, map, take, get_or, slice_get, Some}
use Rattle.std.proofs.lemmas.List.{map-id}
use Rattle.std.proofs.lemmas.Option.{slice_get_read}
use Rattle.dl_values.specs.declared.job.Job.{Job}
use Rattle.dl_loader.specs.Pass.{Trace}
use Rattle.dl_desk.specs.Service.{Service}
use Rattle.dl_history.specs.declared.fault.CallFault.{CallFault}
use Rattle.dl_loader.specs.JobEnd.{WasEnded, WasNotEnded, WereEnded, WereEndedBefore}

-- one job more
pub ended_more : (s : Service) (old now new : Trace) (jobs : List Job) (job : Job)
    → WereEnded s old jobs now → WasEnded s now job new → WereEnded s old (jobs ++ job ∷ []) new
ended_more s old now new [] job same ended = let P : Trace → Type 0 = λ p. WasEnded s p job new in (new, subst P same ended, refl)
ended_more s old now new (x ∷ jobs) job (next, first, rest) ended = (next, first, ended_more s next now new jobs job rest ended)

front : (so_far jobs : List Job) → map (λ job. job) so_far ≡ take (length so_far) jobs → so_far ≡ take (length so_far) jobs
front so_far jobs is = sym (map-id so_far) ∙ is

-- the jobs so far are those before the next one, whose end was refused
pub ended_before : (s : Service) (old now new : Trace) (so_far jobs : List Job) (job : Job) (fault : CallFault)
    → WereEnded s old so_far now → map (λ job. job) so_far ≡ take (length so_far) jobs
    → (length so_far < length jobs) × (job ≡ get_or jobs (length so_far) job) → new ≡ now → WasNotEnded s now job fault
    → WereEndedBefore s old jobs new fault
ended_before s old now new so_far jobs job fault ended is next same refused =
    let P : List Job → Type 0 = λ js. WereEnded s old js new in
    let there : slice_get jobs (length so_far) ≡ Some job = slice_get_read jobs (length jobs) (length so_far) job refl next.0 next.1 in
    (length so_far, job, there, subst P (front so_far jobs is) (rw same ended), rw same refused)

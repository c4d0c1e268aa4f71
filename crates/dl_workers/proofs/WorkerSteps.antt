-- What a worker took and ended, one job more.
use Rattle.std.proofs.Common.{◌≡◌, ◌∙◌, sym, ap, refl, ℕ, ◌+◌, ◌⊎◌, inl, inr, List, [], ◌∷◌, ◌++◌}
use Rattle.std.proofs.lemmas.List.{append_assoc, append-nil, length-append}
use Rattle.dl_values.specs.declared.job.Job.{Job}
use Rattle.dl_loader.specs.Pass.{Trace}
use Rattle.dl_desk.specs.Service.{Service}
use Rattle.dl_loader.specs.JobEnd.{WasEnded, WereEnded}
use Rattle.dl_workers.specs.WorkerResult.{EndedBefore, EndedEach, Took}
use Rattle.dl_loader.proofs.JobEnds.{ended_more}

-- one job more was taken
taken_more : (old jobs now new : List Job) (job : Job) → now ≡ old ++ jobs → new ≡ now ++ job ∷ [] → new ≡ old ++ (jobs ++ job ∷ [])
taken_more old jobs now new job taken is = is ∙ (ap (λ (js : List Job). js ++ job ∷ []) taken ∙ append_assoc old jobs (job ∷ []))

-- no job was taken
pub ended_none : (s : Service) (old : List Job) (trace : Trace) → EndedEach s 0 old old trace trace
ended_none s old trace = record { jobs = []; taken = sym (append-nil old); count = refl; ended = refl }

-- the batch of one job more was ended
pub ended_one_more : (s : Service) (n : ℕ) (old now new : List Job) (before trace after : Trace) (job : Job)
    → EndedEach s n old now before trace → new ≡ now ++ job ∷ [] → WasEnded s trace job after → EndedEach s (n + 1) old new before after
ended_one_more s n old now new before trace after job so_far is ended = record {
  jobs = so_far.jobs ++ job ∷ [];
  taken = taken_more old so_far.jobs now new job so_far.taken is;
  count = ap (λ (m : ℕ). m + 1) so_far.count ∙ sym (length-append so_far.jobs (job ∷ []));
  ended = ended_more s before trace after so_far.jobs job so_far.ended ended;
}

-- after so many jobs the batch of one more was ended or not, and the jobs that were taken after that were dropped
pub gave_up : (s : Service) (n batch : ℕ) (old now last new : List Job) (before trace after : Trace) (job : Job)
    → EndedEach s n old now before trace → last ≡ now ++ job ∷ [] → (after ≡ trace) ⊎ WasEnded s trace job after
    → Took last new → batch ≡ job.batch → EndedBefore s batch old new before after
gave_up s n batch old now last new before trace after job so_far is end dropped of_batch =
    let seam : last ≡ old ++ so_far.jobs ++ job ∷ [] = is ∙ ap (λ (js : List Job). js ++ job ∷ []) so_far.taken in
    record {
      jobs = so_far.jobs;
      job = job;
      of_batch = of_batch;
      taken = (dropped.0, dropped.1 ∙ ap (λ (js : List Job). js ++ dropped.0) seam);
      ended = ended_or_not end;
    }
  where
    ended_or_not : (after ≡ trace) ⊎ WasEnded s trace job after
        → WereEnded s before so_far.jobs after ⊎ WereEnded s before (so_far.jobs ++ job ∷ []) after
    ended_or_not (inl same) = inl (rw same so_far.ended)
    ended_or_not (inr ended) = inr (ended_more s before trace after so_far.jobs job so_far.ended ended)

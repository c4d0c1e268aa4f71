-- What a fetch worker leaves: the jobs that it took, and the ends that it gave their batches.
use Rattle.std.specs.Prelude.{◌≡◌, ◌⊎◌, ℕ, List, [], ◌∷◌, ◌++◌, length}
use Rattle.dl_values.specs.declared.job.Job.{Job}
use Rattle.dl_loader.specs.Pass.{Trace}
use Rattle.dl_desk.specs.Service.{Service}
use Rattle.dl_loader.specs.JobEnd.{WereEnded}
use Rattle.dl_workers.specs.declared.worker.WorkerEnd.{WorkerEnd}
use Rattle.dl_workers.specs.declared.worker.WorkerEnd.TheVariants.{Done, GaveUp}

-- the taker took some jobs more
abbrev pub Took : List Job → List Job → Type 0
Took old new = (jobs : List Job) × (new ≡ old ++ jobs)

-- A worker took this many jobs and ended the batch of each, in order. It made no other call.
pub record EndedEach (service : Service) (batches : ℕ) (old new : List Job) (before after : Trace) : Type 0 where
  pub jobs : List Job
  pub taken : new ≡ old ++ jobs
  pub count : batches ≡ length jobs
  pub ended : WereEnded service before jobs after

-- A worker took jobs and ended the batch of each, in order, up to this one, which it ended or not. Then it only took
-- jobs, and dropped them.
pub record EndedBefore (service : Service) (batch : ℕ) (old new : List Job) (before after : Trace) : Type 0 where
  pub jobs : List Job
  pub job : Job
  pub of_batch : batch ≡ job.batch
  pub taken : Took (old ++ jobs ++ job ∷ []) new
  pub ended : WereEnded service before jobs after ⊎ WereEnded service before (jobs ++ job ∷ []) after

-- how a worker ended, by the jobs that its seat had taken and its caller's calls, before and after
abbrev pub Worked : Service → WorkerEnd → List Job → List Job → Trace → Trace → Type 0
Worked service (Done batches) old new before after = EndedEach service batches old new before after
Worked service (GaveUp batch) old new before after = EndedBefore service batch old new before after

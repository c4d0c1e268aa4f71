-- The jobs by which a host ends batches.
use Rattle.std.specs.Prelude.{ℕ}
use Rattle.dl_values.specs.declared.job.Job.{Job}
use Rattle.dl_desk.specs.History.{job}
use Rattle.dl_desk.specs.Events.{atoms}
use Rattle.dl_history.specs.History.{past}
use Rattle.dl_loader.specs.SerialLoader.{Serial}

-- the job of a batch, by what the history has so far
abbrev pub job_now : ℕ → Serial → Job
job_now batch s = job (atoms (past s.book.history)) batch

-- The parts of a fetched job.
use Rattle.dl_values.specs.declared.job.Job.{Job}
use Rattle.dl_values.specs.declared.outcome.BatchAnswer.{BatchAnswer}
use Rattle.dl_source.specs.declared.source.Source.{Ghosts}
use Rattle.dl_source.specs.declared.fetched.Fetched.{Fetched}

module _ {S : Type 0} {G : Ghosts S} where
  -- the source
  abbrev pub source_of : Fetched S G → S
  source_of f = f.source.now

  -- the job whose keys the source answered
  abbrev pub job_of : Fetched S G → Job
  job_of f = f.job

  -- its answer
  abbrev pub answer_of : Fetched S G → BatchAnswer
  answer_of f = f.answer

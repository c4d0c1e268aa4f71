use Rattle.dl_scope.proofs.CarriedJobs as law
use Rattle.dl_scope.proofs.laws.jobs_are_batches.Goals as goal

pub returns : goal.returns
returns c = law.jobs_are_batches

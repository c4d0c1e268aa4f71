use Rattle.dl_scope.proofs.CarriedJobs as law
use Rattle.dl_scope.proofs.laws.each_is_carried.Goals as goal

pub returns : goal.returns
returns c = law.each_is_carried

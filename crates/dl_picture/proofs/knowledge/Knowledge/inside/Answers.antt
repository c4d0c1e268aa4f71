use Rattle.std.proofs.Common.{subst}
use Rattle.dl_picture.specs.Asking.{known_of}
use Rattle.dl_picture.specs.FaultPath.{ComesFrom, EndsWith, MayEndWith}
use Rattle.dl_picture.proofs.FaultOrigins.{faults_as, first_leftmost}
use Rattle.dl_picture.proofs.knowledge.Knowledge.inside.Goals as goal

pub returns-in_ok-above-in-Some-Err-clause-ends : goal.returns-in_ok-above-in-Some-Err-clause-ends
returns-in_ok-above-in-Some-Err-clause-ends c = λ t q is goes ends.
    let known = known_of c.args.self.now in
    let comes : ComesFrom known q c.in-Some-Err.origin =
    subst (EndsWith known q) c.in-Some-Err.field-0-is (subst (MayEndWith known q) c.in-Some-Err.is ends) in
    c.in_ok-above-in-Some-Err.ensures known t q is comes (first_leftmost known t q goes)
    (goes.fails c.in-Some-Err.origin.fault (faults_as known q c.in-Some-Err.origin comes))

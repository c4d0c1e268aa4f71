use Rattle.dl_scope.proofs.OwnAnswers as law
use Rattle.dl_scope.proofs.laws.answers_are_own.Goals as goal

pub returns : goal.returns
returns c = law.answers_are_own

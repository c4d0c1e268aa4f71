use Rattle.dl_scope.proofs.OwnAnswers as law
use Rattle.dl_scope.proofs.laws.own_answers_are_one.Goals as goal

pub returns : goal.returns
returns c = law.own_answers_are_one c.gives_once.ensures c.gives_for_ever.ensures

use Rattle.dl_scope.proofs.EqualAnswers as law
use Rattle.dl_scope.proofs.laws.answers_are_equal.Goals as goal

pub returns : goal.returns
returns c = law.answers_are_equal c.own_answers_are_one.ensures

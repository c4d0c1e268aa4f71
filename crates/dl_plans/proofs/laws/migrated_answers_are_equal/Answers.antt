use Rattle.dl_plans.proofs.MigratedAnswers as law
use Rattle.dl_plans.proofs.laws.migrated_answers_are_equal.Goals as goal

pub returns : goal.returns
returns c = law.migrated_answers_are_equal c.answers_are_equal.ensures

use Rattle.dl_terms.specs.TermAnswers.{outcome_in}
use Rattle.dl_terms.proofs.AnswersStay.{answer_kept}
use Rattle.dl_terms.proofs.laws.gives_for_ever.Goals as goal

pub returns : goal.returns
returns c = λ t p q a more given. answer_kept (outcome_in p) (outcome_in q) more t a given

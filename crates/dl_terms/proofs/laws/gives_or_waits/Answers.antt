use Rattle.dl_terms.specs.TermAnswers.{outcome_in}
use Rattle.dl_terms.proofs.AnswersWithoutWaits.{answered, unblocked}
use Rattle.dl_terms.proofs.laws.gives_or_waits.Goals as goal

pub returns : goal.returns
returns c = λ t p. (answered (outcome_in p) t, unblocked (outcome_in p) t)

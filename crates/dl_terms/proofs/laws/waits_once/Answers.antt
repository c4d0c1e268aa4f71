use Rattle.dl_terms.specs.TermAnswers.{outcome_in, waits}
use Rattle.dl_terms.proofs.WaitingKeys.{firsts_distinct}
use Rattle.dl_terms.proofs.laws.waits_once.Goals as goal

pub returns : goal.returns
returns c = λ t p. firsts_distinct (waits (outcome_in p) t)

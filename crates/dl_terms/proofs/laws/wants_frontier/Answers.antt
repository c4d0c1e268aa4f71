use Rattle.dl_terms.specs.TermAnswers.{outcome_in, waits}
use Rattle.dl_terms.proofs.WaitingKeys.{inserted_none}
use Rattle.dl_terms.proofs.laws.wants_frontier.Goals as goal

pub returns : goal.returns
returns c = λ t p. inserted_none (waits (outcome_in p) t)

use Rattle.dl_terms.proofs.RuleAnswers.{computed, ruled}
use Rattle.dl_terms.proofs.laws.gives_by_rules.Goals as goal

pub returns : goal.returns
returns c = λ t p a. (computed p t a, ruled p t a)

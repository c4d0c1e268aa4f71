use Rattle.std.proofs.Common.{◌≡◌, None}
use Rattle.std.proofs.lemmas.List.Elements.{All-from_recursion}
use Rattle.dl_terms.specs.TermAnswers.{outcome_in, waits, frontier}
use Rattle.dl_terms.proofs.WaitingKeys.{all_firsts, waits_unknown}
use Rattle.dl_terms.proofs.laws.waits_for_unknown.Goals as goal

pub returns : goal.returns
returns c = λ t p. All-from_recursion (λ k. outcome_in p k ≡ None) (frontier t p)
    (all_firsts (λ k. outcome_in p k ≡ None) (waits (outcome_in p) t) (waits_unknown (outcome_in p) t))

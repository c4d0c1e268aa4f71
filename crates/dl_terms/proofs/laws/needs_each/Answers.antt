use Rattle.std.proofs.Common.{◌≡◌, None}
use Rattle.std.proofs.lemmas.List.Elements.{All-from_recursion}
use Rattle.dl_terms.specs.TermAnswers.{outcome_in, answer, waits, frontier}
use Rattle.dl_terms.proofs.NeededKeys.{all_needed}
use Rattle.dl_terms.proofs.WaitingKeys.{all_firsts}
use Rattle.dl_terms.proofs.laws.needs_each.Goals as goal

pub returns : goal.returns
returns c = λ t p q more. All-from_recursion (λ k. outcome_in q k ≡ None → answer (outcome_in q) t ≡ None) (frontier t p)
    (all_firsts (λ k. outcome_in q k ≡ None → answer (outcome_in q) t ≡ None) (waits (outcome_in p) t) (all_needed (outcome_in p) (outcome_in q) more t))

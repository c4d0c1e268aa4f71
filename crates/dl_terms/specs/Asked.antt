-- The keys that a run of a term has asked for, and which of them have outcomes.
use Rattle.std.specs.Prelude.{◌≡◌, List, [], ◌∷◌, ◌++◌, map, drop, length, Option}
use Rattle.dl_values.specs.Key.{Key}
use Rattle.dl_values.specs.declared.outcome.Outcome.{Outcome}
use Rattle.dl_terms.specs.declared.asked.Asked.{Asked}
use Rattle.dl_terms.specs.TermAnswers.{Pairs, outcome_in}

-- each key with the outcome in its place
abbrev pub paired : List Key → List Outcome → Pairs
paired [] os = []
paired (k ∷ ks) [] = []
paired (k ∷ ks) (o ∷ os) = (k, o) ∷ paired ks os

-- the keys that have outcomes, with these
abbrev pub pairs_of : Asked → Pairs
pairs_of a = paired a.keys.keys (map (λ o. o.now) a.outcomes.items)

-- the outcome of each key that has one
abbrev pub known_of : Asked → Key → Option Outcome
known_of a = outcome_in (pairs_of a)

-- the keys without an outcome
abbrev pub wanted_of : Asked → List Key
wanted_of a = drop (length a.outcomes.items) a.keys.keys

-- the first wanted key has the outcome o from then on
pub record LearnsFirst (old new : Asked) (o : Outcome) : Type 0 where
  pub key : Key
  pub wanted : wanted_of old ≡ key ∷ wanted_of new
  pub pairs : pairs_of new ≡ pairs_of old ++ (key, o) ∷ []

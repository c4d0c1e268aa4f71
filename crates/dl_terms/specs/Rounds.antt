-- Pairs that grow, round by round, and the parts of a term.
use Rattle.std.specs.Prelude.{◌≡◌, ℕ, zero, suc, ◌⊎◌, Option, Some, IsSome, List, All}
use Rattle.dl_values.specs.Key.{Key}
use Rattle.dl_values.specs.declared.outcome.Outcome.{Outcome}
use Rattle.dl_terms.specs.Tree.{Tree, ended, load, pick, follow, each, all, over, the_item, named, Trees, no_trees, tree}
use Rattle.dl_terms.specs.TermAnswers.{Pairs, outcome_in, frontier}

-- q knows what p knows
abbrev pub KnowsMore : (Key → Option Outcome) → (Key → Option Outcome) → Type 0
KnowsMore p q = (k : Key) (o : Outcome) → p k ≡ Some o → q k ≡ Some o

-- q has each pair of p
abbrev pub Gains : Pairs → Pairs → Type 0
Gains p q = KnowsMore (outcome_in p) (outcome_in q)

-- q has a pair of each of the keys
abbrev pub Covers : List Key → Pairs → Type 0
Covers ks q = All (λ k. IsSome (outcome_in q k)) ks

-- q comes from p by gaining the whole frontier of t, r times
abbrev pub GainsFrontier : Tree → ℕ → Pairs → Pairs → Type 0
GainsFrontier t zero p q = p ≡ q
GainsFrontier t (suc r) p q = (m : Pairs) × GainsFrontier t r p m × Gains m q × Covers (frontier t m) q

-- s is t or a part of it. The body of an `over` is none: its copies begin with the list that its part gives.
abbrev mutual
  pub PartOf : Tree → Tree → Type 0
  PartOf s (ended a) = s ≡ ended a
  PartOf s (load k) = s ≡ load k
  PartOf s (pick t field) = (s ≡ pick t field) ⊎ PartOf s t
  PartOf s (follow t field table) = (s ≡ follow t field table) ⊎ PartOf s t
  PartOf s (each t field table) = (s ≡ each t field table) ⊎ PartOf s t
  PartOf s (all ts) = (s ≡ all ts) ⊎ PartOfAny s ts
  PartOf s (over t body) = (s ≡ over t body) ⊎ PartOf s t
  PartOf s the_item = s ≡ the_item
  PartOf s (named names ts) = (s ≡ named names ts) ⊎ PartOfAny s ts

  pub PartOfAny : Tree → Trees → Type 0
  PartOfAny s no_trees = ⊥
  PartOfAny s (tree t ts) = PartOf s t ⊎ PartOfAny s ts

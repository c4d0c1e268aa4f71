-- What a round makes of a term: a tree that means the same from then on.
use Rattle.std.specs.Prelude.{◌≡◌, List, Option}
use Rattle.dl_values.specs.Key.{Key}
use Rattle.dl_values.specs.declared.outcome.Outcome.{Outcome}
use Rattle.dl_terms.specs.declared.answer.Answer.{Answer}
use Rattle.dl_terms.specs.Tree.{Tree}
use Rattle.dl_terms.specs.TermAnswers.{answer, waits}
use Rattle.dl_terms.specs.Rounds.{KnowsMore}
use Rattle.dl_terms.specs.Node.{result_of}

-- if p and perhaps more is known, u answers and waits as t does
pub record MeansSame (p : Key → Option Outcome) (t u : Tree) : Type 0 where
  pub meaning : (q : Key → Option Outcome) → KnowsMore p q → answer q u ≡ answer q t
  pub waiting : (q : Key → Option Outcome) → KnowsMore p q → waits q u ≡ waits q t

-- If p and perhaps more is known, the tree u answers and waits as is said. u is an answer exactly if p suffices for it.
pub record Stands (p : Key → Option Outcome) (says : (Key → Option Outcome) → Option Answer)
    (lacks : (Key → Option Outcome) → List Key) (u : Tree) : Type 0 where
  pub meaning : (q : Key → Option Outcome) → KnowsMore p q → answer q u ≡ says q
  pub waiting : (q : Key → Option Outcome) → KnowsMore p q → waits q u ≡ lacks q
  pub ending : result_of u ≡ says p

-- u means what the tree t means, and is its answer if p suffices for that
abbrev pub Reduces : (Key → Option Outcome) → Tree → Tree → Type 0
Reduces p t u = Stands p (λ q. answer q t) (λ q. waits q t) u

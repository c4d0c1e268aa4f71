-- The laws of what terms give.
use Rattle.std.specs.Prelude.{◌≡◌, ℕ, ◌≤◌, ◌↔◌, [], ◌++◌, Option, Some, None, All, option_and_then}
use Rattle.std.specs.List.{IsDistinct}
use Rattle.indexmap.specs.IndexSet.{insert_all}
use Rattle.serde_json.specs.Data.{Data}
use Rattle.dl_values.specs.Key.{Key, key_eq}
use Rattle.dl_values.specs.declared.outcome.Outcome.{Outcome}
use Rattle.dl_terms.specs.declared.answer.Answer.{Answer}
use Rattle.dl_terms.specs.declared.answer.Answer.TheVariants.{Fault}
use Rattle.dl_terms.specs.Tree.{Tree, ended, all, over, depth_of, height_of, with_item, copies}
use Rattle.dl_terms.specs.TermAnswers.{Pairs, Listed, listed, outcome_in, answer, answer_at, waits, waits_at, waits_after, gives, frontier}
use Rattle.dl_terms.specs.Relation.{Gives}
use Rattle.dl_terms.specs.Rounds.{Gains, GainsFrontier, PartOf}

-- a term gives at most one answer
abbrev pub GivesOnce : Type 0
GivesOnce = (t : Tree) (p : Pairs) (a b : Answer) → gives t p a → gives t p b → a ≡ b

-- it keeps its answer as pairs come in
abbrev pub GivesForEver : Type 0
GivesForEver = (t : Tree) (p q : Pairs) (a : Answer) → Gains p q → gives t p a → gives t q a

-- it gives an answer exactly if it waits for no key
abbrev pub GivesOrWaits : Type 0
GivesOrWaits = (t : Tree) (p : Pairs) → ((a : Answer) × gives t p a) ↔ (frontier t p ≡ [])

-- after r rounds that each gain the whole frontier, each part of depth at most r gives an answer
abbrev pub GivesByDepth : Type 0
GivesByDepth = (t s : Tree) (r : ℕ) (p q : Pairs) → GainsFrontier t r p q → PartOf s t → depth_of s ≤ r → (a : Answer) × gives s q a

-- the definitions compute what the rules give
abbrev pub GivesByRules : Type 0
GivesByRules = (t : Tree) (p : Pairs) (a : Answer) → Gives p t a ↔ gives t p a

-- the keys that it waits for have no outcome yet
abbrev pub WaitsForUnknown : Type 0
WaitsForUnknown = (t : Tree) (p : Pairs) → All (λ k. outcome_in p k ≡ None) (frontier t p)

-- and each of them is there once
abbrev pub WaitsOnce : Type 0
WaitsOnce = (t : Tree) (p : Pairs) → IsDistinct key_eq (frontier t p)

-- and it needs each of them: it gives no answer as long as one has no outcome
abbrev pub NeedsEach : Type 0
NeedsEach = (t : Tree) (p q : Pairs) → Gains p q → All (λ k. outcome_in q k ≡ None → answer (outcome_in q) t ≡ None) (frontier t p)

-- a round that begins with no wanted keys leaves exactly those that the term waits for
abbrev pub WantsFrontier : Type 0
WantsFrontier = (t : Tree) (p : Pairs) → insert_all key_eq [] (waits (outcome_in p) t) ≡ frontier t p

-- what the copies of a body are together: an `all`, or the fault in its place
abbrev pub all_copies : Tree → Listed → Tree
all_copies body (Listed.items ds) = all (copies body ds)
all_copies body (Listed.none f) = ended (Fault f)

-- a body gives and waits, for an item, as the tree with the item in its place does
pub record SubstitutionHolds (known : Key → Option Outcome) : Type 0 where
  pub given : (d : Data) (t : Tree) → answer_at known (Some d) t ≡ answer known (with_item d t)
  pub waiting : (d : Data) (t : Tree) → waits_at known (Some d) t ≡ waits known (with_item d t)

-- an over gives what its part and then the copies of its body, together, give; and so it waits
pub record OverIsAll (known : Key → Option Outcome) : Type 0 where
  pub given : (t body : Tree) → answer known (over t body) ≡ option_and_then (λ a. answer known (all_copies body (listed a))) (answer known t)
  pub waiting : (t body : Tree) → waits known (over t body)
      ≡ waits known t ++ waits_after (answer known t) (λ a. waits known (all_copies body (listed a)))

-- a copy is as deep and as high as its body
pub record CopiesAreAsDeep : Type 0 where
  pub deep : (d : Data) (t : Tree) → depth_of (with_item d t) ≡ depth_of t
  pub high : (d : Data) (t : Tree) → height_of (with_item d t) ≡ height_of t

abbrev pub GivesBySubstitution : Type 0
GivesBySubstitution = ((known : Key → Option Outcome) → SubstitutionHolds known) × ((known : Key → Option Outcome) → OverIsAll known) × CopiesAreAsDeep

-- What a term gives, as a relation: by which rule each form gives which answer (Haxl).
use Rattle.std.specs.Prelude.{◌≡◌, List, [], ◌∷◌, Option, Some, None}
use Rattle.serde_json.specs.Data.{Data, Items, no_items, item}
use Rattle.dl_values.specs.Key.{Key}
use Rattle.dl_values.specs.declared.outcome.Outcome.{Outcome}
use Rattle.dl_terms.specs.declared.answer.Answer.{Answer}
use Rattle.dl_terms.specs.declared.answer.Answer.TheVariants.{Fault}
use Rattle.dl_terms.specs.Tree.{Tree, ended, load, pick, follow, each, all, over, the_item, named, Trees, no_trees, tree}
use Rattle.dl_terms.specs.TermAnswers.{Pairs, outcome_in, loaded, picked, Target, Targets, target_in, targets_in, gathered, Listed, listed, item_answer, assembled}

-- the copies of a body, one for each item
abbrev pub EachCopyGives : (Data → Answer → Type 0) → Items → List Answer → Type 0
EachCopyGives Copy no_items ls = ls ≡ []
EachCopyGives Copy (item d ds) ls = (a : Answer) × (rest : List Answer) × Copy d a × EachCopyGives Copy ds rest × (ls ≡ a ∷ rest)

abbrev pub CopiesGive : (Data → Answer → Type 0) → Listed → Answer → Type 0
CopiesGive Copy (Listed.items ds) b = (ls : List Answer) × EachCopyGives Copy ds ls × (b ≡ gathered ls)
CopiesGive Copy (Listed.none f) b = b ≡ Fault f

module _ (ps : Pairs) where
  -- a load gives what the pair of its key says, and nothing without one
  abbrev pub LoadGives : Key → Answer → Type 0
  LoadGives k b = (o : Outcome) × (outcome_in ps k ≡ Some o) × (b ≡ loaded k o)

  abbrev pub TargetGives : Target → Answer → Type 0
  TargetGives (Target.key k) b = LoadGives k b
  TargetGives (Target.none f) b = b ≡ Fault f

  abbrev pub EachTargetGives : List Target → List Answer → Type 0
  EachTargetGives [] ls = ls ≡ []
  EachTargetGives (x ∷ xs) ls = (a : Answer) × (rest : List Answer) × TargetGives x a × EachTargetGives xs rest × (ls ≡ a ∷ rest)

  abbrev pub TargetsGive : Targets → Answer → Type 0
  TargetsGive (Targets.keys xs) b = (ls : List Answer) × EachTargetGives xs ls × (b ≡ gathered ls)
  TargetsGive (Targets.none f) b = b ≡ Fault f

  abbrev mutual
    -- A value gives itself. A pick, follow or each goes on from what its part gives, and so does an over, with the copies
    -- of its body. All parts give together, as a list or under their names. i is the item of the over in whose body the term lies.
    pub GivesAt : Option Data → Tree → Answer → Type 0
    GivesAt i (ended a) b = b ≡ a
    GivesAt i (load k) b = LoadGives k b
    GivesAt i (pick t field) b = (a : Answer) × GivesAt i t a × (b ≡ picked field a)
    GivesAt i (follow t field table) b = (a : Answer) × GivesAt i t a × TargetGives (target_in table (picked field a)) b
    GivesAt i (each t field table) b = (a : Answer) × GivesAt i t a × TargetsGive (targets_in table (picked field a)) b
    GivesAt i (all ts) b = (ls : List Answer) × EachGivesAt i ts ls × (b ≡ gathered ls)
    GivesAt i (over t body) b = (a : Answer) × GivesAt i t a × CopiesGive (λ d c. GivesAt (Some d) body c) (listed a) b
    GivesAt i the_item b = b ≡ item_answer i
    GivesAt i (named names ts) b = (ls : List Answer) × EachGivesAt i ts ls × (b ≡ assembled names ls)

    pub EachGivesAt : Option Data → Trees → List Answer → Type 0
    EachGivesAt i no_trees ls = ls ≡ []
    EachGivesAt i (tree t ts) ls = (a : Answer) × (rest : List Answer) × GivesAt i t a × EachGivesAt i ts rest × (ls ≡ a ∷ rest)

  abbrev pub Gives : Tree → Answer → Type 0
  Gives t b = GivesAt None t b

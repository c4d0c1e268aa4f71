-- A term keeps its answer when more is known.
use Rattle.std.proofs.Common.{◌≡◌, ◌∙◌, ap, refl, List, [], ◌∷◌, Option, Some, None}
use Rattle.std.specs.Option.{option_map, option_and_then}
use Rattle.serde_json.specs.Data.{Data, Items, no_items, item}
use Rattle.dl_values.specs.Key.{Key}
use Rattle.dl_values.specs.declared.outcome.Outcome.{Outcome}
use Rattle.dl_terms.specs.Tree.{Tree, ended, load, pick, follow, each, all, over, the_item, named, Trees, no_trees, tree}
use Rattle.dl_terms.specs.declared.answer.Answer.{Answer}
use Rattle.dl_terms.specs.TermAnswers.{loaded, picked, gathered, assembled, both, Target, target_in, target_answer, target_answers, Targets, targets_in, targets_answer}
use Rattle.dl_terms.specs.TermAnswers.{Listed, listed, copy_answers, copies_answer, answer_at, answers_at, answer, answers}
use Rattle.dl_terms.specs.Rounds.{KnowsMore}
use Rattle.dl_terms.proofs.Options.{none_absurd}

abbrev pub Keeps : {A : Type 0} → Option A → Option A → Type 0
Keeps {A} x y = (a : A) → x ≡ Some a → y ≡ Some a

pub map_kept : {A B : Type 0} (f : A → B) (x y : Option A) → Keeps x y → Keeps (option_map f x) (option_map f y)
map_kept f None y kept b e = absurd (none_absurd b e)
map_kept f (Some a) y kept b e = ap (option_map f) (kept a refl) ∙ e

pub and_then_kept : {A B : Type 0} (f g : A → Option B) (x y : Option A) → Keeps x y → ((a : A) → Keeps (f a) (g a))
    → Keeps (option_and_then f x) (option_and_then g y)
and_then_kept f g None y kept next b e = absurd (none_absurd b e)
and_then_kept f g (Some a) y kept next b e = ap (option_and_then g) (kept a refl) ∙ next a b e

pub both_kept : {A : Type 0} (x y : Option A) (xs ys : Option (List A)) → Keeps x y → Keeps xs ys → Keeps (both x xs) (both y ys)
both_kept None y xs ys kept rest ls e = absurd (none_absurd ls e)
both_kept (Some a) y xs ys kept rest ls e = ap (λ z. both z ys) (kept a refl) ∙ map_kept (λ l. a ∷ l) xs ys rest ls e

module _ (f g : Data → Option Answer) (kept : (d : Data) → Keeps (f d) (g d)) where
  copy_answers_kept : (ds : Items) → Keeps (copy_answers f ds) (copy_answers g ds)
  copy_answers_kept no_items = λ a e. e
  copy_answers_kept (item d ds) = both_kept (f d) (g d) (copy_answers f ds) (copy_answers g ds) (kept d) (copy_answers_kept ds)

  copies_kept : (x : Listed) → Keeps (copies_answer f x) (copies_answer g x)
  copies_kept (Listed.items ds) = map_kept gathered (copy_answers f ds) (copy_answers g ds) (copy_answers_kept ds)
  copies_kept (Listed.none fault) = λ a e. e

module _ (p q : Key → Option Outcome) (more : KnowsMore p q) where
  target_kept : (x : Target) → Keeps (target_answer p x) (target_answer q x)
  target_kept (Target.key k) = map_kept (loaded k) (p k) (q k) (more k)
  target_kept (Target.none f) = λ a e. e

  target_each_kept : (xs : List Target) → Keeps (target_answers p xs) (target_answers q xs)
  target_each_kept [] = λ a e. e
  target_each_kept (x ∷ xs) = both_kept (target_answer p x) (target_answer q x) (target_answers p xs) (target_answers q xs) (target_kept x)
      (target_each_kept xs)

  targets_kept : (x : Targets) → Keeps (targets_answer p x) (targets_answer q x)
  targets_kept (Targets.keys xs) = map_kept gathered (target_answers p xs) (target_answers q xs) (target_each_kept xs)
  targets_kept (Targets.none f) = λ a e. e

  mutual
    pub answer_at_kept : (i : Option Data) (t : Tree) → Keeps (answer_at p i t) (answer_at q i t)
    answer_at_kept i (ended a) = λ b e. e
    answer_at_kept i (load k) = map_kept (loaded k) (p k) (q k) (more k)
    answer_at_kept i (pick t field) = map_kept (picked field) (answer_at p i t) (answer_at q i t) (answer_at_kept i t)
    answer_at_kept i (follow t field table) = and_then_kept (λ a. target_answer p (target_in table (picked field a)))
        (λ a. target_answer q (target_in table (picked field a))) (answer_at p i t) (answer_at q i t) (answer_at_kept i t)
        (λ a. target_kept (target_in table (picked field a)))
    answer_at_kept i (each t field table) = and_then_kept (λ a. targets_answer p (targets_in table (picked field a)))
        (λ a. targets_answer q (targets_in table (picked field a))) (answer_at p i t) (answer_at q i t) (answer_at_kept i t)
        (λ a. targets_kept (targets_in table (picked field a)))
    answer_at_kept i (all ts) = map_kept gathered (answers_at p i ts) (answers_at q i ts) (answers_at_kept i ts)
    answer_at_kept i (over t body) = and_then_kept (λ a. copies_answer (λ d. answer_at p (Some d) body) (listed a))
        (λ a. copies_answer (λ d. answer_at q (Some d) body) (listed a)) (answer_at p i t) (answer_at q i t) (answer_at_kept i t)
        (λ a. copies_kept (λ d. answer_at p (Some d) body) (λ d. answer_at q (Some d) body) (λ d. answer_at_kept (Some d) body) (listed a))
    answer_at_kept i the_item = λ b e. e
    answer_at_kept i (named names ts) = map_kept (assembled names) (answers_at p i ts) (answers_at q i ts) (answers_at_kept i ts)

    pub answers_at_kept : (i : Option Data) (ts : Trees) → Keeps (answers_at p i ts) (answers_at q i ts)
    answers_at_kept i no_trees = λ a e. e
    answers_at_kept i (tree t ts) = both_kept (answer_at p i t) (answer_at q i t) (answers_at p i ts) (answers_at q i ts) (answer_at_kept i t)
        (answers_at_kept i ts)

  pub answer_kept : (t : Tree) → Keeps (answer p t) (answer q t)
  answer_kept t = answer_at_kept None t

  pub answers_kept : (ts : Trees) → Keeps (answers p ts) (answers q ts)
  answers_kept ts = answers_at_kept None ts

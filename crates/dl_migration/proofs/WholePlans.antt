-- No number of the tree of a plan is a float.
use Rattle.std.proofs.Common.{◌≡◌, refl, Bool, false, ◌||◌, List, [], ◌∷◌, map}
use Rattle.std.proofs.lemmas.Bool.{or_from}
use Rattle.std.specs.List.{AllByRecursion}
use Rattle.serde_json.specs.Data.{Data}
use Rattle.serde_json.specs.View.{items_of}
use Rattle.serde_json.specs.Written.{has_float, items_have_float, members_have_float}
use Rattle.dl_values.specs.declared.outcome.Outcome.TheVariants as outcome
use Rattle.dl_terms.specs.Tree.{Name, Tree, ended, load, pick, follow, each, all, over, the_item, named, Trees, no_trees, tree}
use Rattle.dl_terms.specs.declared.answer.Answer.TheVariants as answer
use Rattle.dl_documents.specs.Document.{forms_of}
use Rattle.dl_documents.specs.Terms.{term_tree, terms_tree, members_tree, HasNames, IsTerm, AreTerms}
use Rattle.dl_documents.specs.Steps.{StepTree, prime, clear, clear_all, eval, step_tree, plan_tree, plans_tree, IsPlanStep, IsPlan}

-- what stands alone in an object, and with texts in a list that does
alone : (b : Bool) → b ≡ false → (b || false) ≡ false
alone b none = or_from b false none refl

with_texts : (b : Bool) → b ≡ false → ((b || false) || false) ≡ false
with_texts b none = alone (b || false) (alone b none)

-- the same of a list of two
both_whole : (a b : Bool) → a ≡ false → b ≡ false → ((a || (b || false)) || false) ≡ false
both_whole a b first second = alone (a || (b || false)) (or_from a (b || false) first (alone b second))

mutual
  whole_term : (t : Tree) → IsTerm t → has_float (term_tree t) ≡ false
  whole_term (ended (answer.Value d)) is = alone (has_float d) is
  whole_term (ended (answer.Fault f)) is = absurd is
  whole_term (load k) is = refl
  whole_term (pick t field) is = with_texts (has_float (term_tree t)) (whole_term t is)
  whole_term (follow t field table) is = with_texts (has_float (term_tree t)) (whole_term t is.0)
  whole_term (each t field table) is = with_texts (has_float (term_tree t)) (whole_term t is.0)
  whole_term (all ts) is = alone (items_have_float (terms_tree ts)) (whole_terms ts is)
  whole_term (over t body) is = both_whole (has_float (term_tree t)) (has_float (term_tree body)) (whole_term t is.0) (whole_term body is.1)
  whole_term the_item is = refl
  whole_term (named names ts) is = alone (members_have_float (members_tree names ts)) (whole_members ts names is.0 is.1)

  whole_terms : (ts : Trees) → AreTerms ts → items_have_float (terms_tree ts) ≡ false
  whole_terms no_trees are = refl
  whole_terms (tree t ts) are = or_from (has_float (term_tree t)) (items_have_float (terms_tree ts)) (whole_term t are.0) (whole_terms ts are.1)

  whole_members : (ts : Trees) (names : List Name) → HasNames names ts → AreTerms ts → members_have_float (members_tree names ts) ≡ false
  whole_members no_trees names have are = refl
  whole_members (tree t ts) [] have are = absurd have
  whole_members (tree t ts) (name ∷ names) have are =
      or_from (has_float (term_tree t)) (members_have_float (members_tree names ts)) (whole_term t are.0) (whole_members ts names have are.1)

whole_step : (d : Data) (s : StepTree) → IsPlanStep (forms_of d) s → has_float (step_tree s) ≡ false
whole_step d (prime k (outcome.Value e)) is = alone ((has_float e || false) || false) (with_texts (has_float e) is.1)
whole_step d (prime k (outcome.KeyError text)) is = refl
whole_step d (prime k (outcome.BatchFailed fault)) is = absurd is.1
whole_step d (clear k) is = refl
whole_step d clear_all is = refl
whole_step d (eval t) is = alone (has_float (term_tree t)) (whole_term t is.0)

module _ {A : Type 0} (spell : A → Data) (Is : A → Type 0) (one_whole : (a : A) → Is a → has_float (spell a) ≡ false) where
  whole_items : (xs : List A) → AllByRecursion Is xs → items_have_float (items_of (map spell xs)) ≡ false
  whole_items [] are = refl
  whole_items (x ∷ xs) are = or_from (has_float (spell x)) (items_have_float (items_of (map spell xs))) (one_whole x are.0) (whole_items xs are.1)

pub whole_plans : (d : Data) (plans : List (List StepTree)) → AllByRecursion (IsPlan (forms_of d)) plans → items_have_float (plans_tree plans) ≡ false
whole_plans d plans are =
    whole_items plan_tree (IsPlan (forms_of d)) (λ plan is. whole_items step_tree (IsPlanStep (forms_of d)) (whole_step d) plan is.steps) plans are

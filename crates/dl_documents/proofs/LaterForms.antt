-- Plans whose terms have the six forms are plans of every later version.
use Rattle.std.proofs.Common.{◌≡◌, ◌∙◌, sym, ap, subst, refl, ℕ, zero, suc, ℤ, pos, ◌<◌, List, [], ◌∷◌, Bool, true, false, not, ◌&&◌}
use Rattle.std.proofs.Common.{if◌then◌else◌, Option, Some, true≢false, arith}
use Rattle.std.proofs.lemmas.Bool.{and_parts, and_from}
use Rattle.std.specs.List.{AllByRecursion}
use Rattle.std.specs.Option.{option_map_or}
use Rattle.std.specs.Ordering.{int_eq}
use Rattle.serde_json.specs.Data.{Data}
use Rattle.dl_terms.specs.Tree.{Tree, ended, load, pick, follow, each, all, over, the_item, named, Trees, no_trees, tree}
use Rattle.dl_documents.specs.Document.{is_script, forms_of, has_number, version_number}
use Rattle.dl_documents.specs.Steps.{StepTree, prime, clear, clear_all, eval, IsPlan, IsPlanStep}
use Rattle.dl_documents.specs.Terms.{has_forms, have_forms}
use Rattle.dl_documents.specs.declared.forms.Forms.{Forms}
use Rattle.dl_documents.specs.declared.forms.Forms.TheVariants.{Six, Nine}

and_no : (b : Bool) → (b && false) ≡ false
and_no true = refl
and_no false = refl

not_three : (n : ℕ) → n < 3 → int_eq (pos 3) (pos n) ≡ false
not_three zero low = refl
not_three (suc zero) low = refl
not_three (suc (suc zero)) low = refl
not_three (suc (suc (suc n))) low = absurd (omega arith)

-- before version 3 there are six forms of terms
six : (d : Data) (n : ℕ) → version_number d ≡ Some (pos n) → n < 3 → forms_of d ≡ Six
six d n is low =
    let third : has_number 3 d ≡ false = ap (λ (o : Option ℤ). option_map_or (int_eq (pos 3)) o false) is ∙ not_three n low in
    ap (λ (b : Bool). if b then Nine 0 else Six) (ap (λ (b : Bool). not (is_script d) && b) third ∙ and_no (not (is_script d)))

nine : (d : Data) → is_script d ≡ false → version_number d ≡ Some (pos 3) → forms_of d ≡ Nine 0
nine d kind is =
    let third : has_number 3 d ≡ true = ap (λ (o : Option ℤ). option_map_or (int_eq (pos 3)) o false) is in
    ap (λ (b : Bool). if b then Nine 0 else Six) (ap (λ (b : Bool). not b && has_number 3 d) kind ∙ third)

mutual
  more_term : (t : Tree) → has_forms Six t ≡ true → has_forms (Nine 0) t ≡ true
  more_term (ended a) has = has
  more_term (load k) has = has
  more_term (pick t field) has = more_term t has
  more_term (follow t field table) has = more_term t has
  more_term (each t field table) has = more_term t has
  more_term (all ts) has = more_terms ts has
  more_term (over t body) has = absurd (true≢false (sym has))
  more_term the_item has = absurd (true≢false (sym has))
  more_term (named names ts) has = absurd (true≢false (sym has))

  more_terms : (ts : Trees) → have_forms Six ts ≡ true → have_forms (Nine 0) ts ≡ true
  more_terms no_trees have = have
  more_terms (tree t ts) have =
      let p = and_parts (has_forms Six t) (have_forms Six ts) have in
      and_from (has_forms (Nine 0) t) (have_forms (Nine 0) ts) (more_term t p.0) (more_terms ts p.1)

more_step : (s : StepTree) → IsPlanStep Six s → IsPlanStep (Nine 0) s
more_step (prime k o) is = is
more_step (clear k) is = is
more_step clear_all is = is
more_step (eval t) is = (is.0, more_term t is.1)

all_more : {X : Type 0} (P Q : X → Type 0) → ((x : X) → P x → Q x) → (xs : List X) → AllByRecursion P xs → AllByRecursion Q xs
all_more P Q more [] are = are
all_more P Q more (x ∷ xs) are = (more x are.0, all_more P Q more xs are.1)

more_plan : (plan : List StepTree) → IsPlan Six plan → IsPlan (Nine 0) plan
more_plan plan is = record { steps = all_more (IsPlanStep Six) (IsPlanStep (Nine 0)) more_step plan is.steps; low = is.low; few = is.few }

-- the plans of a document before version 3, in a document of version 2
pub plans_in_second : (d e : Data) (plans : List (List StepTree)) (n : ℕ) → version_number d ≡ Some (pos n) → n < 3 → version_number e ≡ Some (pos 2)
    → AllByRecursion (IsPlan (forms_of d)) plans → AllByRecursion (IsPlan (forms_of e)) plans
plans_in_second d e plans n before low after are =
    subst (λ (forms : Forms). AllByRecursion (IsPlan forms) plans) (six d n before low ∙ sym (six e 2 after (omega arith))) are

-- and in a plan file of version 3
pub plans_in_third : (d e : Data) (plans : List (List StepTree)) (n : ℕ) → version_number d ≡ Some (pos n) → n < 3 → is_script e ≡ false
    → version_number e ≡ Some (pos 3) → AllByRecursion (IsPlan (forms_of d)) plans → AllByRecursion (IsPlan (forms_of e)) plans
plans_in_third d e plans n before low kind after are =
    let these : AllByRecursion (IsPlan Six) plans = subst (λ (forms : Forms). AllByRecursion (IsPlan forms) plans) (six d n before low) are in
    subst (λ (forms : Forms). AllByRecursion (IsPlan forms) plans) (sym (nine e kind after)) (all_more (IsPlan Six) (IsPlan (Nine 0)) more_plan plans these)

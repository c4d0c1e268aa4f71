-- A step has one tree: what is found in a tree is what the tree spells, and is found again.
use Rattle.std.proofs.Common.{◌≡◌, refl, ap, ◌∙◌, ℕ, ◌≤◌, List, length, Bool, true, codes, nat_le, Some, None, option_map, option_and_then, if◌then◌else◌}
use Rattle.std.proofs.lemmas.Bool.{leb-true, le-leb}
use Rattle.std.proofs.lemmas.Option.{none-some}
use Rattle.std.specs.Option.{option_zip}
use Rattle.serde_json.specs.Data.{Data, string, object, no_members, member}
use Rattle.serde_json.specs.Find.{as_str}
use Rattle.dl_values.specs.Key.{IsKey}
use Rattle.dl_values.specs.declared.outcome.Outcome.{Outcome}
use Rattle.dl_values.specs.declared.outcome.Outcome.TheVariants.{Value, KeyError, BatchFailed}
use Rattle.dl_source.proofs.Spelling.{string_of}
use Rattle.dl_source.specs.Faults.{text_bytes}
use Rattle.dl_terms.proofs.Options.{from_map, from_and_then}
use Rattle.dl_documents.proofs.Findings.{Spelled, kept, from_zip, two_found, Finds, none_found, found_if, under, argued, flagged}
use Rattle.dl_documents.proofs.KeyLaws.{key_is, key_again}
use Rattle.dl_documents.proofs.TermLaws.{value_is, term_is, term_again}
use Rattle.dl_documents.specs.Script.{key_tree, one}
use Rattle.dl_terms.specs.Tree.{Tree}
use Rattle.dl_documents.specs.Terms.{two, term_tree, IsWhole, IsTerm, has_forms}
use Rattle.dl_documents.specs.Steps.{StepTree, prime, clear, clear_all, eval, outcome_tree, step_tree, IsPrimed, IsPlanStep}
use Rattle.dl_documents.specs.Reading.{two_in, key_in}
use Rattle.dl_documents.specs.TermReading.{value_in, term_in}
use Rattle.dl_documents.specs.declared.forms.Forms.{Forms}
use Rattle.dl_documents.specs.StepReading.{short, of_forms, error_in, primed_named, primed_in, primes, step_named, step_in}

-- ---- outcomes

abbrev IsShort : List ℕ → Type 0
IsShort text = length text ≤ text_bytes

error_is : (d : Data) (text : List ℕ) → error_in d ≡ Some text → Spelled string IsShort d text
error_is d text h =
    let a = from_and_then short (as_str d) text h in
    let b = kept (nat_le (length a.0) text_bytes) a.0 text a.2 in
    let low : length a.0 ≤ text_bytes = leb-true (length a.0) text_bytes b.0 in
    rw (← b.1) (record { tree = string_of d a.0 a.1; is = low })

primed_named_is : (name : List ℕ) (d : Data) → Finds outcome_tree IsPrimed (one name d) (primed_named name d)
primed_named_is name d =
    found_if outcome_tree IsPrimed (one name d) _ _ _
    (argued (λ x. x) IsWhole outcome_tree IsPrimed Value (codes "value") name d (value_in d) (value_is d) (λ x. refl) (λ x h. h))
    (found_if outcome_tree IsPrimed (one name d) _ _ _
    (argued string IsShort outcome_tree IsPrimed KeyError (codes "error") name d (error_in d) (error_is d) (λ x. refl) (λ x h. h))
    (none_found outcome_tree IsPrimed (one name d)))

primed_is : (d : Data) (o : Outcome) → primed_in d ≡ Some o → Spelled outcome_tree IsPrimed d o
primed_is (object (member name d no_members)) o h = primed_named_is name d o h
primed_is d o h = absurd (none-some o h)

primed_again : (o : Outcome) → IsPrimed o → primed_in (outcome_tree o) ≡ Some o
primed_again (Value d) h = rw h refl
primed_again (KeyError text) h = rw (le-leb (length text) text_bytes h) refl
primed_again (BatchFailed fault) h = absurd h

-- ---- steps

prime_is : (forms : Forms) (d : Data) → Finds step_tree (IsPlanStep forms) (one (codes "prime") d) (option_and_then primes (two_in d))
prime_is forms d s h =
    let a = from_and_then primes (two_in d) s h in
    let items : Data × Data = a.0 in
    let b = from_map (λ q. prime q.0 q.1) (option_zip (key_in items.0) (primed_in items.1)) s a.2 in
    let found = from_zip (key_in items.0) (primed_in items.1) b.0 b.1 in
    let k = key_is items.0 b.0.0 found.0 in
    let o = primed_is items.1 b.0.1 found.1 in
    let spelled : d ≡ two (key_tree b.0.0) (outcome_tree b.0.1) =
    two_found d items a.1 ∙ (ap (λ x. two x items.1) k.tree ∙ ap (two (key_tree b.0.0)) o.tree) in
    rw b.2 (record { tree = ap (one (codes "prime")) spelled; is = (k.is, o.is) })

-- a term of these forms
abbrev IsTermOf : Forms → Tree → Type 0
IsTermOf forms t = IsTerm t × (has_forms forms t ≡ true)

term_of_is : (forms : Forms) (d : Data) → Finds term_tree (IsTermOf forms) d (option_and_then (of_forms forms) (term_in d))
term_of_is forms d t h =
    let a = from_and_then (of_forms forms) (term_in d) t h in
    let b = kept (has_forms forms a.0) a.0 t a.2 in
    let p = term_is d a.0 a.1 in
    rw (← b.1) (record { tree = p.tree; is = (p.is, b.0) })

named_is : (forms : Forms) (name : List ℕ) (d : Data) → Finds step_tree (IsPlanStep forms) (one name d) (step_named forms name d)
named_is forms name d =
    found_if step_tree (IsPlanStep forms) (one name d) _ _ _ (under step_tree (IsPlanStep forms) (codes "prime") name d (option_and_then primes (two_in d)) (prime_is forms d))
    (found_if step_tree (IsPlanStep forms) (one name d) _ _ _
    (argued key_tree IsKey step_tree (IsPlanStep forms) clear (codes "clear") name d (key_in d) (key_is d) (λ x. refl) (λ x h. h))
    (found_if step_tree (IsPlanStep forms) (one name d) _ _ _ (flagged step_tree (IsPlanStep forms) clear_all (codes "clearAll") name d refl tt)
    (found_if step_tree (IsPlanStep forms) (one name d) _ _ _
    (argued term_tree (IsTermOf forms) step_tree (IsPlanStep forms) eval (codes "eval") name d (option_and_then (of_forms forms) (term_in d))
    (term_of_is forms d) (λ x. refl) (λ x h. h))
    (none_found step_tree (IsPlanStep forms) (one name d)))))

-- the step that is found in a tree is spelled by it
pub step_is : (forms : Forms) (d : Data) (s : StepTree) → step_in forms d ≡ Some s → Spelled step_tree (IsPlanStep forms) d s
step_is forms (object (member name d no_members)) s h = named_is forms name d s h
step_is forms d s h = absurd (none-some s h)

-- and a step is found in its tree
pub step_again : (forms : Forms) (s : StepTree) → (IsPlanStep forms) s → step_in forms (step_tree s) ≡ Some s
step_again forms (prime k o) h = rw (key_again k h.0, primed_again o h.1) refl
step_again forms (clear k) h = ap (option_map clear) (key_again k h)
step_again forms clear_all h = refl
step_again forms (eval t) h = rw (term_again t h.0) (ap (λ (b : Bool). option_map eval (if b then Some t else None)) h.1)

-- Each key that a term waits for is needed: with more outcomes, but not that one, the term has no answer.
use Rattle.std.proofs.Common.{◌≡◌, ◌∙◌, ap, refl, List, [], ◌∷◌, ◌++◌, Option, Some, None}
use Rattle.std.specs.List.{AllByRecursion}
use Rattle.std.specs.Option.{option_map, option_and_then}
use Rattle.serde_json.specs.Data.{Data, Items, no_items, item}
use Rattle.dl_values.specs.Key.{Key}
use Rattle.dl_values.specs.declared.outcome.Outcome.{Outcome}
use Rattle.dl_terms.specs.Tree.{Tree, ended, load, pick, follow, each, all, over, the_item, named, Trees, no_trees, tree}
use Rattle.dl_terms.specs.declared.answer.Answer.{Answer}
use Rattle.dl_terms.specs.TermAnswers.{loaded, picked, gathered, assembled, both, load_waits_for, load_answer, waits_after, Target, target_in, target_answer, target_answers}
use Rattle.dl_terms.specs.TermAnswers.{target_waits, each_target_waits, Targets, targets_in, targets_answer, targets_waits, Listed, listed, copy_answers, copies_answer}
use Rattle.dl_terms.specs.TermAnswers.{copy_waits, copies_wait, answer_at, answers_at, answer, waits_at, all_wait_at, waits}
use Rattle.dl_terms.specs.Rounds.{KnowsMore}
use Rattle.dl_terms.proofs.AnswersStay.{Keeps, answer_at_kept}
use Rattle.dl_terms.proofs.WaitingKeys.{all_append}

weaken : (P Q : Key → Type 0) → ((k : Key) → P k → Q k) → (ks : List Key) → AllByRecursion P ks → AllByRecursion Q ks
weaken P Q f [] h = tt
weaken P Q f (k ∷ ks) h = (f k h.0, weaken P Q f ks h.1)

both_none : {A : Type 0} (x : Option A) → both {A = A} x None ≡ None
both_none None = refl
both_none (Some a) = refl

module _ (q : Key → Option Outcome) where
  -- while q has no outcome of one of the keys, there is nothing
  abbrev pub Needed : {A : Type 0} → Option A → List Key → Type 0
  Needed x ks = AllByRecursion (λ k. q k ≡ None → x ≡ None) ks

  map_needed : {A B : Type 0} (f : A → B) (x : Option A) (ks : List Key) → Needed x ks → Needed (option_map f x) ks
  map_needed f x ks h = weaken (λ k. q k ≡ None → x ≡ None) (λ k. q k ≡ None → option_map f x ≡ None) (λ k is none. ap (option_map f) (is none)) ks h

  both_needed : {A : Type 0} (x : Option A) (xs : Option (List A)) (ks ls : List Key) → Needed x ks → Needed xs ls → Needed (both x xs) (ks ++ ls)
  both_needed x xs ks ls h rest =
      all_append (λ k. q k ≡ None → both x xs ≡ None) ks ls
      (weaken (λ k. q k ≡ None → x ≡ None) (λ k. q k ≡ None → both x xs ≡ None) (λ k is none. ap (λ y. both y xs) (is none)) ks h)
      (weaken (λ k. q k ≡ None → xs ≡ None) (λ k. q k ≡ None → both x xs ≡ None) (λ k is none. ap (both x) (is none) ∙ both_none x) ls rest)

  after_needed : (f : Answer → Option Answer) (next : Answer → List Key) (x y : Option Answer) → Keeps x y → ((a : Answer) → Needed (f a) (next a))
      → Needed (option_and_then f y) (waits_after x next)
  after_needed f next None y kept then = tt
  after_needed f next (Some a) y kept then = weaken (λ k. q k ≡ None → f a ≡ None) (λ k. q k ≡ None → option_and_then f y ≡ None)
      (λ k is none. ap (option_and_then f) (kept a refl) ∙ is none) (next a) (then a)

  and_then_needed : (f : Answer → Option Answer) (next : Answer → List Key) (x y : Option Answer) (ks : List Key) → Keeps x y → Needed y ks
      → ((a : Answer) → Needed (f a) (next a)) → Needed (option_and_then f y) (ks ++ waits_after x next)
  and_then_needed f next x y ks kept h then =
      all_append (λ k. q k ≡ None → option_and_then f y ≡ None) ks (waits_after x next)
      (weaken (λ k. q k ≡ None → y ≡ None) (λ k. q k ≡ None → option_and_then f y ≡ None) (λ k is none. ap (option_and_then f) (is none)) ks h)
      (after_needed f next x y kept then)

  module _ (f : Data → Option Answer) (g : Data → List Key) (need : (d : Data) → Needed (f d) (g d)) where
    each_copy_needed : (ds : Items) → Needed (copy_answers f ds) (copy_waits g ds)
    each_copy_needed no_items = tt
    each_copy_needed (item d ds) = both_needed (f d) (copy_answers f ds) (g d) (copy_waits g ds) (need d) (each_copy_needed ds)

    copies_needed : (x : Listed) → Needed (copies_answer f x) (copies_wait g x)
    copies_needed (Listed.items ds) = map_needed gathered (copy_answers f ds) (copy_waits g ds) (each_copy_needed ds)
    copies_needed (Listed.none fault) = tt

module _ (p q : Key → Option Outcome) (more : KnowsMore p q) where
  load_needed : (k : Key) (o : Option Outcome) → Needed q (load_answer q k) (load_waits_for k o)
  load_needed k None = (λ none. ap (option_map (loaded k)) none, tt)
  load_needed k (Some o) = tt

  target_needed : (x : Target) → Needed q (target_answer q x) (target_waits p x)
  target_needed (Target.key k) = load_needed k (p k)
  target_needed (Target.none f) = tt

  each_target_needed : (xs : List Target) → Needed q (target_answers q xs) (each_target_waits p xs)
  each_target_needed [] = tt
  each_target_needed (x ∷ xs) = both_needed q (target_answer q x) (target_answers q xs) (target_waits p x) (each_target_waits p xs) (target_needed x)
      (each_target_needed xs)

  targets_needed : (x : Targets) → Needed q (targets_answer q x) (targets_waits p x)
  targets_needed (Targets.keys xs) = map_needed q gathered (target_answers q xs) (each_target_waits p xs) (each_target_needed xs)
  targets_needed (Targets.none f) = tt

  mutual
    needed_at : (i : Option Data) (t : Tree) → Needed q (answer_at q i t) (waits_at p i t)
    needed_at i (ended a) = tt
    needed_at i (load k) = load_needed k (p k)
    needed_at i (pick t field) = map_needed q (picked field) (answer_at q i t) (waits_at p i t) (needed_at i t)
    needed_at i (follow t field table) = and_then_needed q (λ a. target_answer q (target_in table (picked field a)))
        (λ a. target_waits p (target_in table (picked field a))) (answer_at p i t) (answer_at q i t) (waits_at p i t) (answer_at_kept p q more i t) (needed_at i t)
        (λ a. target_needed (target_in table (picked field a)))
    needed_at i (each t field table) = and_then_needed q (λ a. targets_answer q (targets_in table (picked field a)))
        (λ a. targets_waits p (targets_in table (picked field a))) (answer_at p i t) (answer_at q i t) (waits_at p i t) (answer_at_kept p q more i t) (needed_at i t)
        (λ a. targets_needed (targets_in table (picked field a)))
    needed_at i (all ts) = map_needed q gathered (answers_at q i ts) (all_wait_at p i ts) (all_needed_at i ts)
    needed_at i (over t body) = and_then_needed q (λ a. copies_answer (λ d. answer_at q (Some d) body) (listed a))
        (λ a. copies_wait (λ d. waits_at p (Some d) body) (listed a)) (answer_at p i t) (answer_at q i t) (waits_at p i t) (answer_at_kept p q more i t) (needed_at i t)
        (λ a. copies_needed q (λ d. answer_at q (Some d) body) (λ d. waits_at p (Some d) body) (λ d. needed_at (Some d) body) (listed a))
    needed_at i the_item = tt
    needed_at i (named names ts) = map_needed q (assembled names) (answers_at q i ts) (all_wait_at p i ts) (all_needed_at i ts)

    all_needed_at : (i : Option Data) (ts : Trees) → Needed q (answers_at q i ts) (all_wait_at p i ts)
    all_needed_at i no_trees = tt
    all_needed_at i (tree t ts) = both_needed q (answer_at q i t) (answers_at q i ts) (waits_at p i t) (all_wait_at p i ts) (needed_at i t) (all_needed_at i ts)

  pub all_needed : (t : Tree) → Needed q (answer q t) (waits p t)
  all_needed t = needed_at None t

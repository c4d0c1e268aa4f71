-- After as many rounds as it is deep, a term has an answer.
use Rattle.std.proofs.Common.{◌≡◌, ◌∙◌, ap, sym, subst, refl, inl, inr, ℕ, zero, suc, ◌+◌, ◌-◌, ◌≤◌, Bool, true, false, cond, filter, not, List, [], ◌∷◌, ◌++◌}
use Rattle.std.proofs.Common.{Option, Some, None, arith}
use Rattle.std.specs.Prelude.{IsSome, max}
use Rattle.std.specs.List.{AllByRecursion}
use Rattle.std.specs.Option.{option_map, option_and_then}
use Rattle.std.proofs.lemmas.List.Elements.{recursion_from_All}
use Rattle.serde_json.specs.Data.{Data, Items, no_items, item}
use Rattle.dl_values.specs.Key.{Key, key_eq}
use Rattle.dl_values.specs.declared.outcome.Outcome.{Outcome}
use Rattle.dl_values.proofs.KeyLemmas.{key_eq-same}
use Rattle.dl_terms.specs.declared.answer.Answer.{Answer}
use Rattle.dl_terms.specs.declared.answer.Answer.TheVariants.{Fault}
use Rattle.dl_terms.specs.Tree.{Tree, ended, load, pick, follow, each, all, over, the_item, named, Trees, no_trees, tree, depth_of, depth_of_all}
use Rattle.dl_terms.specs.TermAnswers.{Pairs, outcome_in, loaded, picked, gathered, both, load_waits_for, waits_after, firsts, Target, target_in, target_answer}
use Rattle.dl_terms.specs.TermAnswers.{target_answers, target_waits, each_target_waits, Targets, targets_in, targets_answer, targets_waits, answer, waits}
use Rattle.dl_terms.specs.TermAnswers.{all_wait, assembled, item_answer, Listed, listed, copy_answers, copies_answer, copy_waits, copies_wait, answer_at, answers_at, waits_at, all_wait_at}
use Rattle.dl_terms.specs.Rounds.{KnowsMore, GainsFrontier, PartOf, PartOfAny}
use Rattle.dl_terms.proofs.AnswersStay.{answer_at_kept}

abbrev Known : (Key → Option Outcome) → List Key → Type 0
Known q ks = AllByRecursion (λ k. IsSome (q k)) ks

-- q knows, of each of r rounds from m on, all that s waited for in it
abbrev pub Rises : Option Data → Tree → (Key → Option Outcome) → ℕ → (Key → Option Outcome) → Type 0
Rises i s m zero q = KnowsMore m q
Rises i s m (suc r) q = (n : Key → Option Outcome) × Rises i s m r n × KnowsMore n q × Known q (waits_at n i s)

knows_then : (m n q : Key → Option Outcome) → KnowsMore m n → KnowsMore n q → KnowsMore m q
knows_then m n q first next k o is = next k o (first k o is)

rises_more : (i : Option Data) (s : Tree) (m : Key → Option Outcome) (r : ℕ) (q : Key → Option Outcome) → Rises i s m r q → KnowsMore m q
rises_more i s m zero q h = h
rises_more i s m (suc r) q (n, past, more, known) = knows_then m n q (rises_more i s m r n past) more

known_left : (q : Key → Option Outcome) (ks ls : List Key) → Known q (ks ++ ls) → Known q ks
known_left q [] ls h = tt
known_left q (k ∷ ks) ls h = (h.0, known_left q ks ls h.1)

known_right : (q : Key → Option Outcome) (ks ls : List Key) → Known q (ks ++ ls) → Known q ls
known_right q [] ls h = h
known_right q (k ∷ ks) ls h = known_right q ks ls h.1

-- ---- a key that is listed once for several is known at each place

once_step : (q : Key → Option Outcome) (k x : Key) (b : Bool) (xs : List Key) → key_eq k x ≡ b → IsSome (q k) → Known q (cond (not b) (x ∷ xs) xs)
    → IsSome (q x) × Known q xs
once_step q k x true xs e known h = (subst (λ y. IsSome (q y)) (key_eq-same k x e) known, h)
once_step q k x false xs e known h = (h.0, h.1)

known_once : (q : Key → Option Outcome) (k : Key) (xs : List Key) → IsSome (q k) → Known q (filter (λ x. not (key_eq k x)) xs) → Known q xs
known_once q k [] known h = tt
known_once q k (x ∷ xs) known h =
    let step = once_step q k x (key_eq k x) (filter (λ y. not (key_eq k y)) xs) refl known h in
    (step.0, known_once q k xs known step.1)

firsts_known : (q : Key → Option Outcome) (ks : List Key) → Known q (firsts ks) → Known q ks
firsts_known q [] h = tt
firsts_known q (k ∷ ks) h = (h.0, firsts_known q ks (known_once q k (firsts ks) h.0 h.1))

-- ---- a part waits for no other keys than the whole

rises_of : (i j : Option Data) (s t : Tree) (m : Key → Option Outcome)
    → ((n q : Key → Option Outcome) → KnowsMore m n → Known q (waits_at n j t) → Known q (waits_at n i s)) → (r : ℕ) (q : Key → Option Outcome)
    → Rises j t m r q → Rises i s m r q
rises_of i j s t m fewer zero q h = h
rises_of i j s t m fewer (suc r) q (n, past, more, known) =
    (n, rises_of i j s t m fewer r n past, more, fewer n q (rises_more j t m r n past) known)

module _ (s : Tree) (m q : Key → Option Outcome) where
  same_known : (t : Tree) → s ≡ t → Known q (waits m t) → Known q (waits m s)
  same_known t e h = subst (λ u. Known q (waits m u)) (sym e) h

  mutual
    part_known : (t : Tree) → PartOf s t → Known q (waits m t) → Known q (waits m s)
    part_known (ended a) e h = same_known (ended a) e h
    part_known (load k) e h = same_known (load k) e h
    part_known (pick t field) (inl e) h = same_known (pick t field) e h
    part_known (pick t field) (inr part) h = part_known t part h
    part_known (follow t field table) (inl e) h = same_known (follow t field table) e h
    part_known
        (follow t field table) (inr part) h = part_known t part (known_left q (waits m t)
        (waits_after (answer m t) (λ a. target_waits m (target_in table (picked field a)))) h)
    part_known (each t field table) (inl e) h = same_known (each t field table) e h
    part_known
        (each t field table) (inr part) h = part_known t part (known_left q (waits m t)
        (waits_after (answer m t) (λ a. targets_waits m (targets_in table (picked field a)))) h)
    part_known (all ts) (inl e) h = same_known (all ts) e h
    part_known (all ts) (inr part) h = any_known ts part h
    part_known (over t body) (inl e) h = same_known (over t body) e h
    part_known (over t body) (inr part) h = part_known t part (known_left q (waits m t)
        (waits_after (answer m t) (λ a. copies_wait (λ d. waits_at m (Some d) body) (listed a))) h)
    part_known the_item e h = same_known the_item e h
    part_known (named names ts) (inl e) h = same_known (named names ts) e h
    part_known (named names ts) (inr part) h = any_known ts part h

    any_known : (ts : Trees) → PartOfAny s ts → Known q (all_wait m ts) → Known q (waits m s)
    any_known no_trees part h = absurd part
    any_known (tree t ts) (inl part) h = part_known t part (known_left q (waits m t) (all_wait m ts) h)
    any_known (tree t ts) (inr part) h = any_known ts part (known_right q (waits m t) (all_wait m ts) h)

-- ---- what is known of the last round answers

has_map : {A B : Type 0} (f : A → B) (x : Option A) → ((a : A) × (x ≡ Some a)) → (b : B) × (option_map f x ≡ Some b)
has_map f x (a, e) = (f a, ap (option_map f) e)

has_both : {A : Type 0} (x : Option A) (xs : Option (List A)) → ((a : A) × (x ≡ Some a)) → ((l : List A) × (xs ≡ Some l))
    → (ls : List A) × (both x xs ≡ Some ls)
has_both x xs (a, e) (l, f) = (a ∷ l, ap (λ o. both o xs) e ∙ ap (option_map (λ r. a ∷ r)) f)

is_some_has : {A : Type 0} (x : Option A) → IsSome x → (a : A) × (x ≡ Some a)
is_some_has None h = absurd (let bad = h in cc)
is_some_has (Some a) h = (a, refl)

module _ (m q : Key → Option Outcome) (more : KnowsMore m q) where
  load_has : (k : Key) (o : Option Outcome) → m k ≡ o → Known q (load_waits_for k o) → (a : Answer) × (option_map (loaded k) (q k) ≡ Some a)
  load_has k None e h = has_map (loaded k) (q k) (is_some_has (q k) h.0)
  load_has k (Some o) e h = has_map (loaded k) (q k) (o, more k o e)

  target_has : (x : Target) → Known q (target_waits m x) → (a : Answer) × (target_answer q x ≡ Some a)
  target_has (Target.key k) h = load_has k (m k) refl h
  target_has (Target.none f) h = (Fault f, refl)

  each_has : (xs : List Target) → Known q (each_target_waits m xs) → (ls : List Answer) × (target_answers q xs ≡ Some ls)
  each_has [] h = ([], refl)
  each_has (x ∷ xs) h = has_both (target_answer q x) (target_answers q xs) (target_has x (known_left q (target_waits m x) (each_target_waits m xs) h))
      (each_has xs (known_right q (target_waits m x) (each_target_waits m xs) h))

  targets_have : (x : Targets) → Known q (targets_waits m x) → (a : Answer) × (targets_answer q x ≡ Some a)
  targets_have (Targets.keys xs) h = has_map gathered (target_answers q xs) (each_has xs h)
  targets_have (Targets.none f) h = (Fault f, refl)

  -- a part that had an answer, and what its answer leads to
  follow_has : (i : Option Data) (t : Tree) (f : Answer → Option Answer) (next : Answer → List Key)
      → ((a : Answer) → Known q (next a) → (b : Answer) × (f a ≡ Some b))
      → ((a : Answer) × (answer_at m i t ≡ Some a)) → Known q (waits_at m i t ++ waits_after (answer_at m i t) next)
      → (b : Answer) × (option_and_then f (answer_at q i t) ≡ Some b)
  follow_has i t f next goes (a, e) h =
      let after = known_right q (waits_at m i t) (waits_after (answer_at m i t) next) h in
      let found = goes a (subst (λ o. Known q (waits_after o next)) e after) in
      (found.0, ap (option_and_then f) (answer_at_kept m q more i t a e) ∙ found.1)

-- ---- bounds of depths, apart from what is known of terms

none_above : (n : ℕ) → n + 1 ≤ 0 → ⊥
none_above n low = omega arith

one_less : (n r : ℕ) → n + 1 ≤ suc r → n ≤ r
one_less n r low = omega arith

left_below : (a b r : ℕ) → max a b ≤ r → a ≤ r
left_below a b r low = omega arith

right_below : (a b r : ℕ) → max a b ≤ r → b ≤ r
right_below a b r low = omega arith

left_sum : (a b r : ℕ) → a + b ≤ r → a ≤ r - b
left_sum a b r low = omega arith

right_sum : (a b r : ℕ) → a + b ≤ r → b ≤ r
right_sum a b r low = omega arith

same_most : (n : ℕ) → n ≤ n
same_most n = omega arith

both_less : (b r : ℕ) → suc b ≤ suc r → b ≤ r
both_less b r low = omega arith

no_more : (b : ℕ) → suc b ≤ 0 → ⊥
no_more b low = omega arith

none_taken : (r : ℕ) → r ≡ r - 0
none_taken r = omega arith

one_taken : (b r : ℕ) → r - b ≡ suc r - suc b
one_taken b r = omega arith

-- the last b rounds, and those before
last_rounds : (i : Option Data) (s : Tree) (m : Key → Option Outcome) (b r : ℕ) (q : Key → Option Outcome) → b ≤ r → Rises i s m r q
    → (n : Key → Option Outcome) × Rises i s m (r - b) n × Rises i s n b q
last_rounds i s m zero r q low h = (q, subst (λ k. Rises i s m k q) (none_taken r) h, λ k o is. is)
last_rounds i s m (suc b) zero q low h = absurd (no_more b low)
last_rounds i s m (suc b) (suc r) q low (n, past, more, known) =
    let rest = last_rounds i s m b r n (both_less b r low) past in
    (rest.0, subst (λ k. Rises i s m k rest.0) (one_taken b r) rest.1, (n, rest.2, more, known))

-- ---- the copies of a body, once the list is there

module _ (i : Option Data) (whole body : Tree) (n q : Key → Option Outcome) (r : ℕ) (h : Rises i whole n r q)
    (gives : (d : Data) → Rises (Some d) body n r q → (a : Answer) × (answer_at q (Some d) body ≡ Some a)) where
  each_copy_has : (ds : Items)
      → ((x p : Key → Option Outcome) → KnowsMore n x → Known p (waits_at x i whole) → Known p (copy_waits (λ d. waits_at x (Some d) body) ds))
      → (ls : List Answer) × (copy_answers (λ d. answer_at q (Some d) body) ds ≡ Some ls)
  each_copy_has no_items fewer = ([], refl)
  each_copy_has (item d ds) fewer =
      has_both (answer_at q (Some d) body) (copy_answers (λ e. answer_at q (Some e) body) ds)
      (gives d (rises_of (Some d) i body whole n (λ x p more known. known_left p (waits_at x (Some d) body)
      (copy_waits (λ e. waits_at x (Some e) body) ds) (fewer x p more known)) r q h))
      (each_copy_has ds (λ x p more known. known_right p (waits_at x (Some d) body) (copy_waits (λ e. waits_at x (Some e) body) ds)
      (fewer x p more known)))

  copies_have : (l : Listed)
      → ((x p : Key → Option Outcome) → KnowsMore n x → Known p (waits_at x i whole) → Known p (copies_wait (λ d. waits_at x (Some d) body) l))
      → (a : Answer) × (copies_answer (λ d. answer_at q (Some d) body) l ≡ Some a)
  copies_have (Listed.items ds) fewer = has_map gathered (copy_answers (λ d. answer_at q (Some d) body) ds) (each_copy_has ds fewer)
  copies_have (Listed.none f) fewer = (Fault f, refl)

-- the part of an over had an answer at n, and r rounds on its copies have theirs
over_has : (i : Option Data) (t body : Tree) (n q : Key → Option Outcome) (r : ℕ) → Rises i (over t body) n r q
    → ((d : Data) → Rises (Some d) body n r q → (a : Answer) × (answer_at q (Some d) body ≡ Some a)) → ((a : Answer) × (answer_at n i t ≡ Some a))
    → (b : Answer) × (answer_at q i (over t body) ≡ Some b)
over_has i t body n q r h gives (a, e) =
    let next = λ (x : Key → Option Outcome) (b : Answer). copies_wait (λ d. waits_at x (Some d) body) (listed b) in
    let found = copies_have i (over t body) body n q r h gives (listed a) (λ x p more known. subst (λ o. Known p (waits_after o (next x)))
    (answer_at_kept n x more i t a e) (known_right p (waits_at x i t) (waits_after (answer_at x i t) (next x)) known)) in (
      found.0,
      ap (option_and_then (λ b. copies_answer (λ d. answer_at q (Some d) body) (listed b)))
          (answer_at_kept n q (rises_more i (over t body) n r q h) i t a e) ∙ found.1,
    )

mutual
  has : (i : Option Data) (s : Tree) (m : Key → Option Outcome) (r : ℕ) (q : Key → Option Outcome) → depth_of s ≤ r → Rises i s m r q
      → (a : Answer) × (answer_at q i s ≡ Some a)
  has i (ended a) m r q low h = (a, refl)
  has i (load k) m zero q low h = absurd (none_above 0 low)
  has i (load k) m (suc r) q low (n, past, more, known) = load_has n q more k (n k) refl known
  has i (pick t field) m r q low h = has_map (picked field) (answer_at q i t)
      (has i t m r q low (rises_of i i t (pick t field) m (λ n p later k. k) r q h))
  has i (follow t field table) m zero q low h = absurd (none_above (depth_of t) low)
  has i (follow t field table) m (suc r) q low (n, past, more, known) =
      follow_has n q more i t (λ a. target_answer q (target_in table (picked field a))) (λ a. target_waits n (target_in table (picked field a)))
      (λ a. target_has n q more (target_in table (picked field a)))
      (has i t m r n (one_less (depth_of t) r low) (rises_of i i t (follow t field table) m (λ x p later k. known_left p (waits_at x i t)
      (waits_after (answer_at x i t) (λ a. target_waits x (target_in table (picked field a)))) k) r n past)) known
  has i (each t field table) m zero q low h = absurd (none_above (depth_of t) low)
  has i (each t field table) m (suc r) q low (n, past, more, known) =
      follow_has n q more i t (λ a. targets_answer q (targets_in table (picked field a))) (λ a. targets_waits n (targets_in table (picked field a)))
      (λ a. targets_have n q more (targets_in table (picked field a)))
      (has i t m r n (one_less (depth_of t) r low) (rises_of i i t (each t field table) m (λ x p later k. known_left p (waits_at x i t)
      (waits_after (answer_at x i t) (λ a. targets_waits x (targets_in table (picked field a)))) k) r n past)) known
  has i (all ts) m r q low h = has_map gathered (answers_at q i ts) (all_have i (all ts) ts m r q low (λ n p later k. k) h)
  has i (over t body) m r q low h =
      let parts = last_rounds i (over t body) m (depth_of body) r q (right_sum (depth_of t) (depth_of body) r low) h in
      over_has i t body parts.0 q (depth_of body) parts.2 (λ d g. has (Some d) body parts.0 (depth_of body) q (same_most (depth_of body)) g)
      (has i t m (r - depth_of body) parts.0 (left_sum (depth_of t) (depth_of body) r low)
      (rises_of i i t (over t body) m (λ x p later k. known_left p (waits_at x i t)
      (waits_after (answer_at x i t) (λ a. copies_wait (λ d. waits_at x (Some d) body) (listed a))) k) (r - depth_of body) parts.0 parts.1))
  has i the_item m r q low h = (item_answer i, refl)
  has i (named names ts) m r q low h =
      has_map (assembled names) (answers_at q i ts) (all_have i (named names ts) ts m r q low (λ n p later k. k) h)

  -- the parts ts of a whole that waits for no less than they do
  all_have : (i : Option Data) (whole : Tree) (ts : Trees) (m : Key → Option Outcome) (r : ℕ) (q : Key → Option Outcome) → depth_of_all ts ≤ r
      → ((n p : Key → Option Outcome) → KnowsMore m n → Known p (waits_at n i whole) → Known p (all_wait_at n i ts)) → Rises i whole m r q
      → (ls : List Answer) × (answers_at q i ts ≡ Some ls)
  all_have i whole no_trees m r q low fewer h = ([], refl)
  all_have i whole (tree t ts) m r q low fewer h =
      has_both (answer_at q i t) (answers_at q i ts)
      (has i t m r q (left_below (depth_of t) (depth_of_all ts) r low)
      (rises_of i i t whole m (λ n p later k. known_left p (waits_at n i t) (all_wait_at n i ts) (fewer n p later k)) r q h))
      (all_have i whole ts m r q (right_below (depth_of t) (depth_of_all ts) r low)
      (λ n p later k. known_right p (waits_at n i t) (all_wait_at n i ts) (fewer n p later k)) h)

rises : (t : Tree) (r : ℕ) (p q : Pairs) → GainsFrontier t r p q → Rises None t (outcome_in p) r (outcome_in q)
rises t zero p q e = subst (λ x. KnowsMore (outcome_in p) (outcome_in x)) e (λ k o is. is)
rises t (suc r) p q (m, past, more, covers) = (
  outcome_in m,
  rises t r p m past,
  more,
  firsts_known (outcome_in q) (waits (outcome_in m) t)
      (recursion_from_All (λ k. IsSome (outcome_in q k)) (firsts (waits (outcome_in m) t)) covers),
)

pub given_by_depth : (t s : Tree) (r : ℕ) (p q : Pairs) → GainsFrontier t r p q → PartOf s t → depth_of s ≤ r
    → (a : Answer) × (answer (outcome_in q) s ≡ Some a)
given_by_depth t s r p q gains part low =
    has None s (outcome_in p) r (outcome_in q) low
    (rises_of None None s t (outcome_in p) (λ m n later. part_known s m n t part) r (outcome_in q) (rises t r p q gains))

-- The keys that a term waits for: none has an outcome, and each stands once.
use Rattle.std.proofs.Common.{◌≡◌, ◌∙◌, ap, sym, refl, Bool, true, false, ◌&&◌, ◌||◌, not, cond, filter, List, [], ◌∷◌, ◌++◌, Option, Some, None, append_assoc}
use Rattle.std.specs.List.{AllByRecursion, IsDistinct, list_any}
use Rattle.std.proofs.lemmas.List.{append-nil}
use Rattle.std.proofs.lemmas.List.Folds.{list_any-append}
use Rattle.indexmap.specs.IndexSet.{insert_all}
use Rattle.serde_json.specs.Data.{Data, Items, no_items, item}
use Rattle.dl_values.specs.Key.{Key, key_eq}
use Rattle.dl_values.specs.declared.outcome.Outcome.{Outcome}
use Rattle.dl_values.proofs.KeyLemmas.{key_eq-sym, key_eq-same}
use Rattle.dl_terms.specs.declared.answer.Answer.{Answer}
use Rattle.dl_terms.specs.Tree.{Tree, ended, load, pick, follow, each, all, over, the_item, named, Trees, no_trees, tree}
use Rattle.dl_terms.specs.TermAnswers.{picked, load_waits_for, waits_after, firsts, Target, target_in, target_waits, each_target_waits, Targets, targets_in}
use Rattle.dl_terms.specs.TermAnswers.{targets_waits, Listed, listed, copy_waits, copies_wait, answer_at, waits_at, all_wait_at, waits}

-- ---- keys of which something holds

module _ (P : Key → Type 0) where
  pub all_append : (ks ls : List Key) → AllByRecursion P ks → AllByRecursion P ls → AllByRecursion P (ks ++ ls)
  all_append [] ls h r = r
  all_append (k ∷ ks) ls h r = (h.0, all_append ks ls h.1 r)

  filter_step : (k : Key) (ks : List Key) (b : Bool) → P k → AllByRecursion P ks → AllByRecursion P (cond b (k ∷ ks) ks)
  filter_step k ks true h r = (h, r)
  filter_step k ks false h r = r

  all_filter : (test : Key → Bool) (ks : List Key) → AllByRecursion P ks → AllByRecursion P (filter test ks)
  all_filter test [] h = tt
  all_filter test (k ∷ ks) h = filter_step k (filter test ks) (test k) h.0 (all_filter test ks h.1)

  pub all_firsts : (ks : List Key) → AllByRecursion P ks → AllByRecursion P (firsts ks)
  all_firsts [] h = tt
  all_firsts (k ∷ ks) h = (h.0, all_filter (λ q. not (key_eq k q)) (firsts ks) (all_firsts ks h.1))

-- ---- none has an outcome

module _ (known : Key → Option Outcome) where
  abbrev Unknown : List Key → Type 0
  Unknown ks = AllByRecursion (λ k. known k ≡ None) ks

  load_unknown : (k : Key) (o : Option Outcome) → known k ≡ o → Unknown (load_waits_for k o)
  load_unknown k None e = (e, tt)
  load_unknown k (Some o) e = tt

  target_unknown : (x : Target) → Unknown (target_waits known x)
  target_unknown (Target.key k) = load_unknown k (known k) refl
  target_unknown (Target.none f) = tt

  each_unknown : (xs : List Target) → Unknown (each_target_waits known xs)
  each_unknown [] = tt
  each_unknown (x ∷ xs) = all_append (λ k. known k ≡ None) (target_waits known x) (each_target_waits known xs) (target_unknown x) (each_unknown xs)

  targets_unknown : (x : Targets) → Unknown (targets_waits known x)
  targets_unknown (Targets.keys xs) = each_unknown xs
  targets_unknown (Targets.none f) = tt

  after_unknown : (next : Answer → List Key) (o : Option Answer) → ((a : Answer) → Unknown (next a)) → Unknown (waits_after o next)
  after_unknown next None h = tt
  after_unknown next (Some a) h = h a

  each_copy_unknown : (g : Data → List Key) → ((d : Data) → Unknown (g d)) → (ds : Items) → Unknown (copy_waits g ds)
  each_copy_unknown g h no_items = tt
  each_copy_unknown g h (item d ds) = all_append (λ k. known k ≡ None) (g d) (copy_waits g ds) (h d) (each_copy_unknown g h ds)

  copies_unknown : (g : Data → List Key) → ((d : Data) → Unknown (g d)) → (x : Listed) → Unknown (copies_wait g x)
  copies_unknown g h (Listed.items ds) = each_copy_unknown g h ds
  copies_unknown g h (Listed.none fault) = tt

  mutual
    waits_at_unknown : (i : Option Data) (t : Tree) → Unknown (waits_at known i t)
    waits_at_unknown i (ended a) = tt
    waits_at_unknown i (load k) = load_unknown k (known k) refl
    waits_at_unknown i (pick t field) = waits_at_unknown i t
    waits_at_unknown i (follow t field table) =
        let next = λ (a : Answer). target_waits known (target_in table (picked field a)) in
        all_append (λ k. known k ≡ None) (waits_at known i t) (waits_after (answer_at known i t) next) (waits_at_unknown i t)
        (after_unknown next (answer_at known i t) (λ a. target_unknown (target_in table (picked field a))))
    waits_at_unknown i (each t field table) =
        let next = λ (a : Answer). targets_waits known (targets_in table (picked field a)) in
        all_append (λ k. known k ≡ None) (waits_at known i t) (waits_after (answer_at known i t) next) (waits_at_unknown i t)
        (after_unknown next (answer_at known i t) (λ a. targets_unknown (targets_in table (picked field a))))
    waits_at_unknown i (all ts) = all_unknown i ts
    waits_at_unknown i (over t body) =
        let next = λ (a : Answer). copies_wait (λ d. waits_at known (Some d) body) (listed a) in
        all_append (λ k. known k ≡ None) (waits_at known i t) (waits_after (answer_at known i t) next) (waits_at_unknown i t)
        (after_unknown next (answer_at known i t) (λ a. copies_unknown (λ d. waits_at known (Some d) body) (λ d. waits_at_unknown (Some d) body) (listed a)))
    waits_at_unknown i the_item = tt
    waits_at_unknown i (named names ts) = all_unknown i ts

    all_unknown : (i : Option Data) (ts : Trees) → Unknown (all_wait_at known i ts)
    all_unknown i no_trees = tt
    all_unknown i (tree t ts) = all_append (λ k. known k ≡ None) (waits_at known i t) (all_wait_at known i ts) (waits_at_unknown i t) (all_unknown i ts)

  pub waits_unknown : (t : Tree) → Unknown (waits known t)
  waits_unknown t = waits_at_unknown None t

-- ---- each stands once

others_step : (k x : Key) (b : Bool) (ks : List Key) → key_eq k x ≡ b → AllByRecursion (λ y. key_eq k y ≡ false) ks
    → AllByRecursion (λ y. key_eq k y ≡ false) (cond (not b) (x ∷ ks) ks)
others_step k x true ks e h = h
others_step k x false ks e h = (e, h)

others : (k : Key) (ks : List Key) → AllByRecursion (λ y. key_eq k y ≡ false) (filter (λ q. not (key_eq k q)) ks)
others k [] = tt
others k (x ∷ ks) = others_step k x (key_eq k x) (filter (λ q. not (key_eq k q)) ks) refl (others k ks)

distinct_step : (x : Key) (b : Bool) (ks : List Key) → AllByRecursion (λ y. key_eq x y ≡ false) ks → IsDistinct key_eq ks
    → IsDistinct key_eq (cond b (x ∷ ks) ks)
unfolding IsDistinct
distinct_step x true ks h d = (h, d)
distinct_step x false ks h d = d

distinct_filter : (test : Key → Bool) (ks : List Key) → IsDistinct key_eq ks → IsDistinct key_eq (filter test ks)
unfolding IsDistinct
distinct_filter test [] d = tt
distinct_filter test (x ∷ ks) d = distinct_step x (test x) (filter test ks) (all_filter (λ y. key_eq x y ≡ false) test ks d.0) (distinct_filter test ks d.1)

pub firsts_distinct : (ks : List Key) → IsDistinct key_eq (firsts ks)
unfolding IsDistinct
firsts_distinct [] = tt
firsts_distinct (k ∷ ks) = (others k (firsts ks), distinct_filter (λ q. not (key_eq k q)) (firsts ks) (firsts_distinct ks))

-- ---- inserted in turn, they stand at their first places

filter_both_step : (x : Key) (a b : Bool) (p q : List Key) → p ≡ q → cond a (cond b (x ∷ p) p) p ≡ cond (a && b) (x ∷ q) q
filter_both_step x true true p q e = ap (λ l. x ∷ l) e
filter_both_step x true false p q e = e
filter_both_step x false b p q e = e

filter_cond : (test : Key → Bool) (x : Key) (a : Bool) (ks : List Key) → filter test (cond a (x ∷ ks) ks) ≡ cond a
    (cond (test x) (x ∷ filter test ks) (filter test ks)) (filter test ks)
filter_cond test x true ks = refl
filter_cond test x false ks = refl

-- two filters are one, with both tests
filter_both : (first second : Key → Bool) (ks : List Key) → filter second (filter first ks) ≡ filter (λ x. first x && second x) ks
filter_both first second [] = refl
filter_both first second (x ∷ ks) =
    filter_cond second x (first x) (filter first ks)
    ∙ filter_both_step x (first x) (second x) (filter second (filter first ks)) (filter (λ y. first y && second y) ks) (filter_both first second ks)

filter_same : (f g : Key → Bool) → ((x : Key) → f x ≡ g x) → (ks : List Key) → filter f ks ≡ filter g ks
filter_same f g e [] = refl
filter_same f g e (x ∷ ks) = (λ i. cond (e x i) (x ∷ filter_same f g e ks i) (filter_same f g e ks i))

filter_every : (ks : List Key) → filter (λ x. true) ks ≡ ks
filter_every [] = refl
filter_every (k ∷ ks) = ap (λ l. k ∷ l) (filter_every ks)

abbrev is_new : List Key → Key → Bool
is_new base q = not (list_any (key_eq q) base)

-- a key that is there already, and is not k, or is k
drops_known : (base : List Key) (k : Key) → list_any (key_eq k) base ≡ true → (q : Key) → (not (key_eq k q) && is_new base q) ≡ is_new base q
drops_known base k there q = by (key_eq k q) refl
  where
    by : (b : Bool) → key_eq k q ≡ b → (not b && is_new base q) ≡ is_new base q
    by true e = sym (ap not (ap (λ x. list_any (key_eq x) base) (sym (key_eq-same k q e)) ∙ there))
    by false e = refl

or_last : (b : Bool) → (b || false) ≡ b
or_last true = refl
or_last false = refl

new_step : (a b : Bool) → (not a && not b) ≡ not (b || a)
new_step true true = refl
new_step true false = refl
new_step false true = refl
new_step false false = refl

drops_new : (base : List Key) (k q : Key) → (not (key_eq k q) && is_new base q) ≡ is_new (base ++ k ∷ []) q
drops_new base k q =
    new_step (key_eq k q) (list_any (key_eq q) base)
    ∙ sym (ap not (list_any-append (key_eq q) base (k ∷ []) ∙ ap (λ b. list_any (key_eq q) base || b) (or_last (key_eq q k) ∙ key_eq-sym q k)))

insert_step : (base ks : List Key) (k : Key) (b : Bool) → list_any (key_eq k) base ≡ b
    → insert_all key_eq base ks ≡ base ++ filter (is_new base) (firsts ks)
    → insert_all key_eq (base ++ k ∷ []) ks ≡ (base ++ k ∷ []) ++ filter (is_new (base ++ k ∷ [])) (firsts ks)
    → insert_all key_eq (cond b base (base ++ k ∷ [])) ks ≡ base ++ cond (not b) (k ∷ filter (is_new base) (filter (λ q. not (key_eq k q)) (firsts ks)))
    (filter (is_new base) (filter (λ q. not (key_eq k q)) (firsts ks)))
insert_step base ks k true there same more =
    same
    ∙ ap (λ l.
    base ++ l)
    (sym (filter_both (λ q. not (key_eq k q)) (is_new base) (firsts ks)
    ∙ filter_same (λ q. not (key_eq k q) && is_new base q) (is_new base) (drops_known base k there) (firsts ks)))
insert_step base ks k false new same more =
    more
    ∙ (append_assoc base (k ∷ []) (filter (is_new (base ++ k ∷ [])) (firsts ks))
    ∙ ap (λ l.
    base ++ k ∷ l) (sym (filter_both (λ q. not (key_eq k q)) (is_new base) (firsts ks)
    ∙ filter_same (λ q. not (key_eq k q) && is_new base q) (is_new (base ++ k ∷ [])) (drops_new base k) (firsts ks))))

inserted : (base ks : List Key) → insert_all key_eq base ks ≡ base ++ filter (is_new base) (firsts ks)
inserted base [] = sym (append-nil base)
inserted base (k ∷ ks) = insert_step base ks k (list_any (key_eq k) base) refl (inserted base ks) (inserted (base ++ k ∷ []) ks)

pub inserted_none : (ks : List Key) → insert_all key_eq [] ks ≡ firsts ks
inserted_none ks = inserted [] ks ∙ filter_every (firsts ks)

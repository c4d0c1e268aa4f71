-- A term has an answer exactly where none of its loads waits.
use Rattle.std.proofs.Common.{◌≡◌, ◌≢◌, ap, sym, subst, refl, List, [], ◌∷◌, ◌++◌, Option, Some, None}
use Rattle.std.specs.Option.{option_map, option_and_then}
use Rattle.serde_json.specs.Data.{Data, Items, no_items, item}
use Rattle.dl_values.specs.Key.{Key}
use Rattle.dl_values.specs.declared.outcome.Outcome.{Outcome}
use Rattle.dl_terms.specs.declared.answer.Answer.{Answer}
use Rattle.dl_terms.specs.Tree.{Tree, ended, load, pick, follow, each, all, over, the_item, named, Trees, no_trees, tree}
use Rattle.dl_terms.specs.TermAnswers.{Listed, listed, copy_answers, copies_answer, copy_waits, copies_wait, assembled, answer_at, answers_at, waits_at, all_wait_at}
use Rattle.dl_terms.specs.TermAnswers.{loaded, picked, gathered, both, load_waits_for, waits_after, firsts, Target, target_in, target_answer, target_answers}
use Rattle.dl_terms.specs.TermAnswers.{target_waits, each_target_waits, Targets, targets_in, targets_answer, targets_waits, answer, answers, waits, all_wait}

-- what waits is something where there is no answer, and nothing where there is one
abbrev pub Settles : {A : Type 0} → Option A → List Key → Type 0
Settles None ks = ks ≢ []
Settles (Some a) ks = ks ≡ []

some_append : (ks ls : List Key) → ks ≢ [] → ks ++ ls ≢ []
some_append [] ls some e = some refl
some_append (k ∷ ks) ls some e = let bad : ◌≡◌ {A = List Key} (k ∷ (ks ++ ls)) [] = e in cc

module _ {A B : Type 0} where
  map_settles : (f : A → B) (x : Option A) (ks : List Key) → Settles x ks → Settles (option_map f x) ks
  map_settles f None ks s = s
  map_settles f (Some a) ks s = s

  and_then_settles : (f : A → Option B) (next : A → List Key) (x : Option A) (ks : List Key) → Settles x ks → ((a : A) → Settles (f a) (next a))
      → (after : List Key) → (x ≡ None → after ≡ []) → ((a : A) → x ≡ Some a → after ≡ next a) → Settles (option_and_then f x) (ks ++ after)
  and_then_settles f next None ks s then after none some = some_append ks after s
  and_then_settles f next (Some a) ks s then after none some = subst (λ l. Settles (f a) (l ++ after)) (sym s)
      (subst (Settles (f a)) (sym (some a refl)) (then a))

both_settles : {A : Type 0} (x : Option A) (xs : Option (List A)) (ks ls : List Key) → Settles x ks → Settles xs ls → Settles (both x xs) (ks ++ ls)
both_settles None xs ks ls s rest = some_append ks ls s
both_settles (Some a) xs ks ls s rest = subst (λ l. Settles (option_map (λ r. a ∷ r) xs) (l ++ ls)) (sym s) (map_settles (λ r. a ∷ r) xs ls rest)

module _ (f : Data → Option Answer) (g : Data → List Key) (settle : (d : Data) → Settles (f d) (g d)) where
  each_copy_settles : (ds : Items) → Settles (copy_answers f ds) (copy_waits g ds)
  each_copy_settles no_items = refl
  each_copy_settles (item d ds) = both_settles (f d) (copy_answers f ds) (g d) (copy_waits g ds) (settle d) (each_copy_settles ds)

  copies_settle : (x : Listed) → Settles (copies_answer f x) (copies_wait g x)
  copies_settle (Listed.items ds) = map_settles gathered (copy_answers f ds) (copy_waits g ds) (each_copy_settles ds)
  copies_settle (Listed.none fault) = refl

module _ (known : Key → Option Outcome) where
  load_settles : (k : Key) (o : Option Outcome) → Settles (option_map (loaded k) o) (load_waits_for k o)
  load_settles k None = λ e. let bad : ◌≡◌ {A = List Key} (k ∷ []) [] = e in cc
  load_settles k (Some o) = refl

  target_settles : (x : Target) → Settles (target_answer known x) (target_waits known x)
  target_settles (Target.key k) = load_settles k (known k)
  target_settles (Target.none f) = refl

  each_settles : (xs : List Target) → Settles (target_answers known xs) (each_target_waits known xs)
  each_settles [] = refl
  each_settles (x ∷ xs) = both_settles (target_answer known x) (target_answers known xs) (target_waits known x) (each_target_waits known xs)
      (target_settles x) (each_settles xs)

  targets_settle : (x : Targets) → Settles (targets_answer known x) (targets_waits known x)
  targets_settle (Targets.keys xs) = map_settles gathered (target_answers known xs) (each_target_waits known xs) (each_settles xs)
  targets_settle (Targets.none f) = refl

  after_none : (x : Option Answer) (next : Answer → List Key) → x ≡ None → waits_after x next ≡ []
  after_none x next e = ap (λ o. waits_after o next) e

  after_some : (x : Option Answer) (next : Answer → List Key) (a : Answer) → x ≡ Some a → waits_after x next ≡ next a
  after_some x next a e = ap (λ o. waits_after o next) e

  mutual
    pub settles_at : (i : Option Data) (t : Tree) → Settles (answer_at known i t) (waits_at known i t)
    settles_at i (ended a) = refl
    settles_at i (load k) = load_settles k (known k)
    settles_at i (pick t field) = map_settles (picked field) (answer_at known i t) (waits_at known i t) (settles_at i t)
    settles_at i (follow t field table) =
        let next = λ (a : Answer). target_waits known (target_in table (picked field a)) in
        and_then_settles (λ a. target_answer known (target_in table (picked field a))) next (answer_at known i t) (waits_at known i t) (settles_at i t)
        (λ a. target_settles (target_in table (picked field a)))
        (waits_after (answer_at known i t) next) (after_none (answer_at known i t) next) (after_some (answer_at known i t) next)
    settles_at i (each t field table) =
        let next = λ (a : Answer). targets_waits known (targets_in table (picked field a)) in
        and_then_settles (λ a. targets_answer known (targets_in table (picked field a))) next (answer_at known i t) (waits_at known i t) (settles_at i t)
        (λ a. targets_settle (targets_in table (picked field a)))
        (waits_after (answer_at known i t) next) (after_none (answer_at known i t) next) (after_some (answer_at known i t) next)
    settles_at i (all ts) = map_settles gathered (answers_at known i ts) (all_wait_at known i ts) (all_settle_at i ts)
    settles_at i (over t body) =
        let next = λ (a : Answer). copies_wait (λ d. waits_at known (Some d) body) (listed a) in
        and_then_settles (λ a. copies_answer (λ d. answer_at known (Some d) body) (listed a)) next (answer_at known i t) (waits_at known i t) (settles_at i t)
        (λ a. copies_settle (λ d. answer_at known (Some d) body) (λ d. waits_at known (Some d) body) (λ d. settles_at (Some d) body) (listed a))
        (waits_after (answer_at known i t) next) (after_none (answer_at known i t) next) (after_some (answer_at known i t) next)
    settles_at i the_item = refl
    settles_at i (named names ts) = map_settles (assembled names) (answers_at known i ts) (all_wait_at known i ts) (all_settle_at i ts)

    pub all_settle_at : (i : Option Data) (ts : Trees) → Settles (answers_at known i ts) (all_wait_at known i ts)
    all_settle_at i no_trees = refl
    all_settle_at i (tree t ts) = both_settles (answer_at known i t) (answers_at known i ts) (waits_at known i t) (all_wait_at known i ts)
        (settles_at i t) (all_settle_at i ts)

  pub settles : (t : Tree) → Settles (answer known t) (waits known t)
  settles t = settles_at None t

  pub all_settle : (ts : Trees) → Settles (answers known ts) (all_wait known ts)
  all_settle ts = all_settle_at None ts

firsts_none : (ks : List Key) → firsts ks ≡ [] → ks ≡ []
firsts_none [] e = refl
firsts_none (k ∷ ks) e = absurd (let bad : ◌≡◌ {A = List Key} (firsts (k ∷ ks)) [] = e in cc)

pub settled_some : (x : Option Answer) (ks : List Key) → Settles x ks → ks ≡ [] → (a : Answer) × (x ≡ Some a)
settled_some None ks s e = absurd (s e)
settled_some (Some a) ks s e = (a, refl)

pub settled_none : (x : Option Answer) (ks : List Key) (a : Answer) → Settles x ks → x ≡ Some a → ks ≡ []
settled_none x ks a s e = let t : Settles (Some a) ks = subst (λ o. Settles o ks) e s in t

pub answered : (known : Key → Option Outcome) (t : Tree) → ((a : Answer) × (answer known t ≡ Some a)) → firsts (waits known t) ≡ []
answered known t given = ap firsts (settled_none (answer known t) (waits known t) given.0 (settles known t) given.1)

pub unblocked : (known : Key → Option Outcome) (t : Tree) → firsts (waits known t) ≡ [] → (a : Answer) × (answer known t ≡ Some a)
unblocked known t e = settled_some (answer known t) (waits known t) (settles known t) (firsts_none (waits known t) e)

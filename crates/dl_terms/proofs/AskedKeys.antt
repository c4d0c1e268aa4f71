-- What the place of a key among those that were asked for tells of it.
use Rattle.std.proofs.Common.{◌≡◌, ◌∙◌, ap, sym, subst, refl, ℕ, zero, suc, ◌+◌, ◌≤◌, Bool, true, false, not, cond, ◌||◌, List, [], ◌∷◌, ◌++◌, length, drop}
use Rattle.std.proofs.Common.{slice_get, map, ◌≢◌, Option, Some, None, if◌then◌else◌, arith, length-append}
use Rattle.std.specs.Borrow.{Bor}
use Rattle.std.specs.Option.{option_map, option_copied}
use Rattle.std.specs.Slice.{IsItemAt}
use Rattle.std.proofs.lemmas.Option.{slice_get_past, slice_get_read, slice_get-map}
use Rattle.std.proofs.lemmas.List.{length-map, map-append}
use Rattle.std.specs.List.{list_any, position_or_len, AllByRecursion, IsDistinct}
use Rattle.indexmap.specs.IndexSet.{insert_key, insert_all}
use Rattle.dl_values.specs.Key.{Key, key_eq}
use Rattle.dl_values.specs.declared.outcome.Outcome.{Outcome}
use Rattle.dl_values.proofs.KeyLemmas.{key_eq-refl, key_eq-sym}
use Rattle.dl_terms.specs.TermAnswers.{outcome_in, load_waits_for}
use Rattle.dl_terms.specs.Asked.{paired}
use Rattle.dl_terms.proofs.Options.{none_absurd, some_same}

-- ---- the outcome of a key

found_step : (b : Bool) (o : Outcome) (first : Option Outcome) (os : List Outcome) (i : ℕ) → first ≡ slice_get os i
    → (if b then Some o else first) ≡ slice_get (o ∷ os) (cond (not b) (1 + i) 0)
found_step true o first os i e = refl
found_step false o first os i e = let next : suc i ≡ 1 + i = omega arith in e ∙ ap (λ n. slice_get (o ∷ os) n) next

-- it stands in the key's place
pub found : (ks : List Key) (os : List Outcome) (k : Key) → length os ≤ length ks → outcome_in (paired ks os) k ≡ slice_get os (position_or_len (key_eq k) ks)
found [] [] k within = refl
found [] (o ∷ os) k within = absurd (omega arith)
found (x ∷ ks) [] k within = refl
found (x ∷ ks) (o ∷ os) k within =
    let below : length os ≤ length ks = omega arith in
    found_step (key_eq k x) o (outcome_in (paired ks os) k) os (position_or_len (key_eq k) ks) (found ks os k below)

all_at : (P : Key → Type 0) (ks : List Key) (i : ℕ) (k : Key) → AllByRecursion P ks → slice_get ks i ≡ Some k → P k
all_at P [] i k all is = absurd (none_absurd k is)
all_at P (x ∷ ks) zero k all is = subst P (some_same x k is) all.0
all_at P (x ∷ ks) (suc i) k all is = all_at P ks i k all.1 is

taken : (b : Bool) (o : Outcome) (rest : Option Outcome) → b ≡ true → (if b then Some o else rest) ≡ Some o
taken b o rest e = ap (λ t. if t then Some o else rest) e

passed : (b : Bool) (o : Outcome) (rest r : Option Outcome) → b ≡ false → rest ≡ r → (if b then Some o else rest) ≡ r
passed b o rest r e is = ap (λ t. if t then Some o else rest) e ∙ is

-- and what stands there is its outcome
pub outcome_there : (ks : List Key) (os : List Outcome) (i : ℕ) (k : Key) (o : Outcome) → IsDistinct key_eq ks → slice_get ks i ≡ Some k
    → slice_get os i ≡ Some o → outcome_in (paired ks os) k ≡ Some o
unfolding IsDistinct
outcome_there [] os i k o distinct key outcome = absurd (none_absurd k key)
outcome_there (x ∷ ks) [] i k o distinct key outcome = absurd (none_absurd o outcome)
outcome_there (x ∷ ks) (y ∷ os) zero k o distinct key outcome =
    let same : key_eq k x ≡ true = ap (key_eq k) (some_same x k key) ∙ key_eq-refl k in
    taken (key_eq k x) y (outcome_in (paired ks os) k) same ∙ outcome
outcome_there (x ∷ ks) (y ∷ os) (suc i) k o distinct key outcome =
    let other : key_eq k x ≡ false = key_eq-sym k x ∙ all_at (λ z. key_eq x z ≡ false) ks i k distinct.0 key in
    passed (key_eq k x) y (outcome_in (paired ks os) k) (Some o) other (outcome_there ks os i k o distinct.1 key outcome)

-- ---- keys behind those that have outcomes

pub paired_none : (ks : List Key) → paired ks [] ≡ []
paired_none [] = refl
paired_none (k ∷ ks) = refl

pub paired_behind : (ks : List Key) (os : List Outcome) (more : List Key) → length os ≤ length ks → paired (ks ++ more) os ≡ paired ks os
paired_behind [] [] more within = paired_none more
paired_behind [] (o ∷ os) more within = absurd (omega arith)
paired_behind (k ∷ ks) [] more within = refl
paired_behind (k ∷ ks) (o ∷ os) more within = let below : length os ≤ length ks = omega arith in ap (λ ps. (k, o) ∷ ps) (paired_behind ks os more below)

kept : (b : Bool) (ks : List Key) (os : List Outcome) (k : Key) → length os ≤ length ks → paired (if b then ks else ks ++ k ∷ []) os ≡ paired ks os
kept true ks os k within = refl
kept false ks os k within = paired_behind ks os (k ∷ []) within

-- a key that is asked for changes no pair
pub pairs_kept : (ks : List Key) (os : List Outcome) (k : Key) → length os ≤ length ks → paired (insert_key key_eq ks k) os ≡ paired ks os
pairs_kept ks os k within = kept (list_any (key_eq k) ks) ks os k within

wanted_step : (b any : Bool) (x k : Key) (ks : List Key) (os : List Outcome) (o : Outcome) (first : Option Outcome)
    → drop (length os) (if any then ks else ks ++ k ∷ []) ≡ insert_all key_eq (drop (length os) ks) (load_waits_for k first)
    → drop (suc (length os)) (if b || any then x ∷ ks else x ∷ (ks ++ k ∷ []))
    ≡ insert_all key_eq (drop (length os) ks) (load_waits_for k (if b then Some o else first))
wanted_step true any x k ks os o first e = refl
wanted_step false true x k ks os o first e = e
wanted_step false false x k ks os o first e = e

-- and is wanted where it has no outcome
pub wanted_more : (ks : List Key) (os : List Outcome) (k : Key) → length os ≤ length ks → drop (length os) (insert_key key_eq ks k)
    ≡ insert_all key_eq (drop (length os) ks) (load_waits_for k (outcome_in (paired ks os) k))
wanted_more ks [] k within = ap (λ ps. insert_all key_eq ks (load_waits_for k (outcome_in ps k))) (sym (paired_none ks))
wanted_more [] (o ∷ os) k within = absurd (omega arith)
wanted_more (x ∷ ks) (o ∷ os) k within =
    let below : length os ≤ length ks = omega arith in
    wanted_step (key_eq k x) (list_any (key_eq k) ks) x k ks os o (outcome_in (paired ks os) k) (wanted_more ks os k below)

-- ---- the outcome of the first key without one

dropped_none : (n : ℕ) → drop {A = Key} n [] ≡ []
dropped_none zero = refl
dropped_none (suc n) = refl

pub paired_next : (ks : List Key) (os : List Outcome) (k : Key) (rest : List Key) (o : Outcome) → drop (length os) ks ≡ k ∷ rest
    → paired ks (os ++ o ∷ []) ≡ paired ks os ++ (k, o) ∷ []
paired_next [] os k rest o front = absurd (let bad : ◌≡◌ {A = List Key} [] (k ∷ rest) = sym (dropped_none (length os)) ∙ front in cc)
paired_next (x ∷ ks) [] k rest o front =
    let same : x ≡ k = (let heads : ◌≡◌ {A = List Key} (x ∷ ks) (k ∷ rest) = front in cc) in
    ap (λ ps. (x, o) ∷ ps) (paired_none ks) ∙ ap (λ y. (y, o) ∷ []) same
paired_next (x ∷ ks) (y ∷ os) k rest o front = ap (λ ps. (x, y) ∷ ps) (paired_next ks os k rest o front)

pub drop_next : (n : ℕ) (ks : List Key) (k : Key) (rest : List Key) → drop n ks ≡ k ∷ rest → drop (n + 1) ks ≡ rest
drop_next zero [] k rest front = absurd (let bad : ◌≡◌ {A = List Key} [] (k ∷ rest) = front in cc)
drop_next zero (x ∷ ks) k rest front = let same : ◌≡◌ {A = List Key} (x ∷ ks) (k ∷ rest) = front in cc
drop_next (suc n) [] k rest front = absurd (let bad : ◌≡◌ {A = List Key} [] (k ∷ rest) = front in cc)
drop_next (suc n) (x ∷ ks) k rest front = let next : suc n + 1 ≡ suc (n + 1) = omega arith in ap (λ m. drop m (x ∷ ks)) next ∙ drop_next n ks k rest front

-- ---- the outcomes are lent

abbrev now_of : Bor Outcome → Outcome
now_of o = o.now

-- what is found in a place
pub got : {X : Type 0} (xs : List X) (i : ℕ) (r : Option (Bor X)) → IsItemAt xs i r → option_copied r ≡ slice_get xs i
got xs i None item = sym (slice_get_past xs i item.3)
got xs i (Some x) item = sym (slice_get_read xs (length xs) i x.now refl item.3.0 item.1)

module _ (ks : List Key) (bs : List (Bor Outcome)) (within : length bs ≤ length ks) where
  as_long : length (map now_of bs) ≤ length ks
  as_long = subst (λ n. n ≤ length ks) (sym (length-map bs now_of)) within

  pub outcome_found : (k : Key) (r : Option (Bor Outcome)) → r ≡ slice_get bs (position_or_len (key_eq k) ks)
      → option_map now_of r ≡ outcome_in (paired ks (map now_of bs)) k
  outcome_found k r is =
      let i = position_or_len (key_eq k) ks in
      ap (option_map now_of) is ∙ (sym (slice_get-map now_of bs i) ∙ sym (found ks (map now_of bs) k as_long))

  pub ask_keeps : (k : Key) → paired (insert_key key_eq ks k) (map now_of bs) ≡ paired ks (map now_of bs)
  ask_keeps k = pairs_kept ks (map now_of bs) k as_long

  pub ask_wants : (k : Key) → drop (length bs) (insert_key key_eq ks k)
      ≡ insert_all key_eq (drop (length bs) ks) (load_waits_for k (outcome_in (paired ks (map now_of bs)) k))
  ask_wants k =
      subst (λ n. drop n (insert_key key_eq ks k) ≡ insert_all key_eq (drop n ks) (load_waits_for k (outcome_in (paired ks (map now_of bs)) k)))
      (length-map bs now_of) (wanted_more ks (map now_of bs) k as_long)

first_of : (ks : List Key) → ks ≢ [] → (k : Key) × (rest : List Key) × (ks ≡ k ∷ rest)
first_of [] some = absurd (some refl)
first_of (k ∷ ks) some = (k, ks, refl)

pub first_learned : (ks : List Key) (bs after : List (Bor Outcome)) (o : Bor Outcome) → drop (length bs) ks ≢ [] → after ≡ bs ++ o ∷ []
    → (k : Key) × (drop (length bs) ks ≡ k ∷ drop (length after) ks) × (paired ks (map now_of after) ≡ paired ks (map now_of bs) ++ (k, o.now) ∷ [])
first_learned ks bs after o some pushed =
    let first = first_of (drop (length bs) ks) some in
    let long : length after ≡ length bs + 1 = ap length pushed ∙ length-append bs (o ∷ []) in
    let rest : drop (length after) ks ≡ first.1 = ap (λ n. drop n ks) long ∙ drop_next (length bs) ks first.0 first.1 first.2 in
    let front : drop (length (map now_of bs)) ks ≡ first.0 ∷ first.1 = ap (λ n. drop n ks) (length-map bs now_of) ∙ first.2 in (
      first.0,
      first.2 ∙ ap (λ r. first.0 ∷ r) (sym rest),
      ap (λ xs. paired ks (map now_of xs)) pushed
          ∙ (ap (paired ks) (map-append now_of bs (o ∷ [])) ∙ paired_next ks (map now_of bs) first.0 first.1 o.now front),
    )

-- What is shown of the memo, and what a fail makes it forget.
use Rattle.std.proofs.Common.{◌≡◌, ◌∙◌, sym, ap, subst, ℕ, zero, suc, ◌+◌, ◌<◌, ◌≤◌, Bool, true, false, not, ◌&&◌, ◌||◌, cond, List, [], ◌∷◌, ◌++◌, length}
use Rattle.std.proofs.Common.{take, Option, Some, None, position, nat_lt, nat_eq, refl, arith}
use Rattle.std.specs.List.{position_or_len}
use Rattle.std.specs.Map.{lookup, keys_of}
use Rattle.std.proofs.lemmas.Bool.{lt-ltb, le-ltb, eqb-true, eq-eqb}
use Rattle.std.proofs.lemmas.Bool.Decides.{nat_tests}
use Rattle.std.proofs.lemmas.Option.{cond_some}
use Rattle.dl_values.specs.Key.{Key, key_eq}
use Rattle.dl_desk.specs.Inside.Preparation.{has_pair, without}
use Rattle.dl_values.proofs.KeyLemmas.{key_eq-sym, key_eq-same}
use Rattle.dl_desk.proofs.EndLemmas.{has_pair-snoc}

-- ---- a part of the memo

shown_step : (test : Key → Bool) (e : Key × ℕ) (es : List (Key × ℕ)) (n m : ℕ) (t : Bool) → lookup test (take n es) ≡ cond (nat_lt m n) (lookup test es) None
    → cond t (Some e.1) (lookup test (take n es)) ≡ cond (nat_lt (cond (not t) (1 + m) 0) (suc n)) (cond t (Some e.1) (lookup test es)) None
shown_step test e es n m true rest = let b : nat_lt 0 (suc n) ≡ true = lt-ltb 0 (suc n) (omega arith) in rw b refl
shown_step test e es n m false rest = let b : nat_lt (1 + m) (suc n) ≡ nat_lt m n = grind (arith, nat_tests) in rw (b, rest) refl

none_zero : (m : ℕ) (o : Option ℕ) → None ≡ cond (nat_lt m 0) o None
none_zero m o = let b : nat_lt m 0 ≡ false = le-ltb m 0 (omega arith) in rw b refl

none_both : (t : Bool) → ◌≡◌ {A = Option ℕ} None (cond t None None)
none_both true = refl
none_both false = refl

-- a key is found in the front of the memo where its place is
pub lookup-take : (test : Key → Bool) (es : List (Key × ℕ)) (n : ℕ) → lookup test (take n es) ≡ cond (nat_lt (position_or_len test (keys_of es)) n)
    (lookup test es) None
lookup-take test [] zero = none_both (nat_lt 0 0)
lookup-take test [] (suc n) = none_both (nat_lt 0 (suc n))
lookup-take test (e ∷ es) zero = none_zero (position_or_len test (keys_of (e ∷ es))) (lookup test (e ∷ es))
lookup-take test (e ∷ es) (suc n) = shown_step test e es n (position_or_len test (keys_of es)) (test e.0) (lookup-take test es n)

-- a key that isn't in the memo isn't in its front
pub lookup-take_none : (test : Key → Bool) (es : List (Key × ℕ)) (n : ℕ) → lookup test es ≡ None → lookup test (take n es) ≡ None
lookup-take_none test es n none = lookup-take test es n ∙ (rw none (sym (none_both (nat_lt (position_or_len test (keys_of es)) n))))

place_is : (test : Key → Bool) (es : List (Key × ℕ)) (i : ℕ) → position test (keys_of es) ≡ Some i → position_or_len test (keys_of es) ≡ i
place_is test es i at = (cond_some (nat_lt (position_or_len test (keys_of es)) (length (keys_of es))) (position_or_len test (keys_of es)) i at).1

-- a key at a place that is shown
pub lookup-take_in : (test : Key → Bool) (es : List (Key × ℕ)) (n i v : ℕ) → position test (keys_of es) ≡ Some i → lookup test es ≡ Some v → i < n
    → lookup test (take n es) ≡ Some v
lookup-take_in test es n i v at found low =
    let b : nat_lt (position_or_len test (keys_of es)) n ≡ true = rw (place_is test es i at) (lt-ltb i n low) in
    lookup-take test es n ∙ (rw (b, found) refl)

-- and at one that isn't
pub lookup-take_out : (test : Key → Bool) (es : List (Key × ℕ)) (n i : ℕ) → position test (keys_of es) ≡ Some i → n ≤ i → lookup test (take n es) ≡ None
lookup-take_out test es n i at high =
    let b : nat_lt (position_or_len test (keys_of es)) n ≡ false = rw (place_is test es i at) (le-ltb i n high) in
    lookup-take test es n ∙ (rw b refl)

-- ---- forgetting members one by one

-- the memo holds what it held first, without the members' own cells
pub record Forgot (first before : Key → Option ℕ) (ms : List (Key × ℕ)) : Type 0 where
  pub is : (q : Key) → before q ≡ without ms q (first q)

removed_none : (t : Bool) → ◌≡◌ {A = Option ℕ} (cond t None None) None
removed_none true = refl
removed_none false = refl

-- the entry was removed: it had the member's own cell
pub forgot_removed : (first before then : Key → Option ℕ) (ms : List (Key × ℕ)) (j : Key) (d : ℕ) → Forgot first before ms → before j ≡ Some d
    → ((q : Key) → then q ≡ cond (key_eq j q) None (before q)) → Forgot first then (ms ++ (j, d) ∷ [])
forgot_removed first before then ms j d f at removed = record { is = λ q. removed q ∙ by q (first q) refl }
  where
    inner : (q : Key) (c : ℕ) (mine same : Bool) → first q ≡ Some c → has_pair ms q c ≡ mine → key_eq j q ≡ same
        → cond same None (before q) ≡ cond (mine || (key_eq q j && nat_eq c d)) None (Some c)
    inner q c true same is m s = let b : before q ≡ None = f.is q ∙ (rw (is, m) refl) in rw b (removed_none same)
    inner q c false true is m s =
        let e : j ≡ q = key_eq-same j q s in
        let b : before q ≡ Some c = f.is q ∙ (rw (is, m) refl) in
        let P : Key → Type 0 = λ k. before k ≡ Some d in
        let two : ◌≡◌ {A = Option ℕ} (Some c) (Some d) = sym b ∙ subst P e at in
        let same_cell : c ≡ d = cc in
        rw (key_eq-sym q j, s, eq-eqb c d same_cell) refl
    inner q c false false is m s =
        let b : before q ≡ Some c = f.is q ∙ (rw (is, m) refl) in
        rw (key_eq-sym q j, s) b

    by : (q : Key) (o : Option ℕ) → first q ≡ o → cond (key_eq j q) None (before q) ≡ without (ms ++ (j, d) ∷ []) q o
    by q None is = let b : before q ≡ None = f.is q ∙ (rw is refl) in rw b (removed_none (key_eq j q))
    by q (Some c) is = rw (has_pair-snoc ms (j, d) q c) (inner q c (has_pair ms q c) (key_eq j q) is refl refl)

-- the entry stayed: it had another cell, or there was none
pub forgot_kept : (first before then : Key → Option ℕ) (ms : List (Key × ℕ)) (j : Key) (d : ℕ) → Forgot first before ms → (before j ≡ Some d → ⊥)
    → ((q : Key) → then q ≡ before q) → Forgot first then (ms ++ (j, d) ∷ [])
forgot_kept first before then ms j d f other kept = record { is = λ q. kept q ∙ by q (first q) refl }
  where
    inner : (q : Key) (c : ℕ) (mine same equal : Bool) → first q ≡ Some c → has_pair ms q c ≡ mine → key_eq q j ≡ same → nat_eq c d ≡ equal
        → before q ≡ cond (mine || (same && equal)) None (Some c)
    inner q c true same equal is m s e = f.is q ∙ (rw (is, m) refl)
    inner q c false false equal is m s e = f.is q ∙ (rw (is, m) refl)
    inner q c false true false is m s e = f.is q ∙ (rw (is, m) refl)
    inner q c false true true is m s e =
        let k : q ≡ j = key_eq-same q j s in
        let b : before q ≡ Some c = f.is q ∙ (rw (is, m) refl) in
        let P : Key → Type 0 = λ x. before x ≡ Some c in
        let here : before j ≡ Some c = subst P k b in
        absurd (other (here ∙ ap (λ (n : ℕ). Some n) (eqb-true c d e)))

    by : (q : Key) (o : Option ℕ) → first q ≡ o → before q ≡ without (ms ++ (j, d) ∷ []) q o
    by q None is = f.is q ∙ (rw is refl)
    by q (Some c) is = rw (has_pair-snoc ms (j, d) q c) (inner q c (has_pair ms q c) (key_eq q j) (nat_eq c d) is refl refl refl)

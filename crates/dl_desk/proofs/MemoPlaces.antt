-- The place at which the memo holds a key.
use Rattle.std.proofs.Common.{◌≡◌, sym, ℕ, suc, ◌+◌, Bool, true, false, List, [], ◌∷◌, ◌++◌, Option, Some, None, slice_get, refl, arith}
use Rattle.std.specs.List.{position_or_len}
use Rattle.std.specs.Map.{keys_of, lookup, lookup_key}
use Rattle.std.specs.Prelude.{IsSome, IsSomeAnd}
use Rattle.dl_values.specs.Key.{Key, key_eq}
use Rattle.dl_values.proofs.KeyLemmas.{key_eq-same}
use Rattle.dl_desk.specs.Inside.MemoPlaces.{IsAt}

at_next : (e : Key × ℕ) (es : List (Key × ℕ)) (n : ℕ) (k : Key) → IsAt es n k → IsAt (e ∷ es) (1 + n) k
at_next e es n k here = let next : 1 + n ≡ suc n = omega arith in rw next here

-- a key that the memo holds is at its first place
pub held_at : (es : List (Key × ℕ)) (k : Key) (c : ℕ) → lookup (key_eq k) es ≡ Some c → IsAt es (position_or_len (key_eq k) (keys_of es)) k
held_at [] k c held = absurd (let bad : ◌≡◌ {A = Option ℕ} None (Some c) = held in cc)
held_at (e ∷ es) k c held = by (key_eq k e.0) refl (λ rest. at_next e es (position_or_len (key_eq k) (keys_of es)) k (held_at es k c rest))
  where
    by : (t : Bool) → key_eq k e.0 ≡ t → (lookup (key_eq k) es ≡ Some c → IsAt (e ∷ es) (1 + position_or_len (key_eq k) (keys_of es)) k)
        → IsAt (e ∷ es) (position_or_len (key_eq k) (keys_of (e ∷ es))) k
    by true is next = rw is (sym (key_eq-same k e.0 is))
    by false is next = rw is (next (rw is at held))

-- and one that it doesn't hold will be at its end
pub noted_at : (es : List (Key × ℕ)) (k : Key) (c : ℕ) → lookup (key_eq k) es ≡ None
    → IsAt (es ++ (k, c) ∷ []) (position_or_len (key_eq k) (keys_of es)) k
noted_at [] k c none = refl
noted_at (e ∷ es) k c none =
    by (key_eq k e.0) refl (λ rest. at_next e (es ++ (k, c) ∷ []) (position_or_len (key_eq k) (keys_of es)) k (noted_at es k c rest))
  where
    by : (t : Bool) → key_eq k e.0 ≡ t
        → (lookup (key_eq k) es ≡ None → IsAt (e ∷ (es ++ (k, c) ∷ [])) (1 + position_or_len (key_eq k) (keys_of es)) k)
        → IsAt (e ∷ (es ++ (k, c) ∷ [])) (position_or_len (key_eq k) (keys_of (e ∷ es))) k
    by true is next = absurd (let bad : ◌≡◌ {A = Option ℕ} (Some e.1) None = rw is at none in cc)
    by false is next = rw is (next (rw is at none))

found_key : (es : List (Key × ℕ)) (k x : Key) → lookup_key (key_eq k) es ≡ Some x → x ≡ k
found_key [] k x found = absurd (let bad : ◌≡◌ {A = Option Key} None (Some x) = found in cc)
found_key (e ∷ es) k x found = by (key_eq k e.0) refl (found_key es k x)
  where
    by : (t : Bool) → key_eq k e.0 ≡ t → (lookup_key (key_eq k) es ≡ Some x → x ≡ k) → x ≡ k
    by true is rest =
        let same : k ≡ e.0 = key_eq-same k e.0 is in
        let first : ◌≡◌ {A = Option Key} (Some e.0) (Some x) = rw is at found in
        cc
    by false is rest = rest (rw is at found)

-- what is found for a key stands at its place
pub found_at : (es : List (Key × ℕ)) (place : ℕ) (k x : Key) (c : ℕ) → slice_get es place ≡ Some (x, c) → lookup_key (key_eq k) es ≡ Some x → IsAt es place k
found_at es place k x c entry key = rw entry (found_key es k x key)

-- a key is there
pub is_there : (memo : List (Key × ℕ)) (place : ℕ) (k : Key) → IsAt memo place k → IsSome (slice_get memo place)
is_there memo place k here = by (slice_get memo place) here
  where
    by : (o : Option (Key × ℕ)) → IsSomeAnd o (λ e. e.0 ≡ k) → IsSome o
    by None none = absurd none
    by (Some e) some = refl

-- a place has one key
pub same_at : (memo : List (Key × ℕ)) (place : ℕ) (j k : Key) → IsAt memo place j → IsAt memo place k → j ≡ k
same_at memo place j k one other = by (slice_get memo place) one other
  where
    by : (o : Option (Key × ℕ)) → IsSomeAnd o (λ e. e.0 ≡ j) → IsSomeAnd o (λ e. e.0 ≡ k) → j ≡ k
    by None a b = absurd a
    by (Some e) a b = cc

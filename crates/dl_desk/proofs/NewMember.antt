-- The batches with one more member, place by place.
use Rattle.std.proofs.Common.{◌≡◌, ap, ℕ, zero, suc, ◌+◌, ◌<◌, ◌≤◌, List, [], ◌∷◌, ◌++◌, length, Option, Some, None, slice_get, refl, arith}
use Rattle.dl_values.specs.Key.{Key}
use Rattle.dl_desk.specs.BatchBook.{Batch}
use Rattle.dl_desk.specs.Inside.Preparation.{put_member}

pub length-put_member : (xs : List Batch) (n : ℕ) (m : Key × ℕ) → n < length xs → length (put_member xs n m) ≡ length xs
length-put_member [] n m low = absurd (omega arith)
length-put_member (x ∷ xs) zero m low = refl
length-put_member (x ∷ xs) (suc n) m low = let rest = length-put_member xs n m (omega arith) in omega arith

pub length-put_member_new : (xs : List Batch) (n : ℕ) (m : Key × ℕ) → n ≡ length xs → length (put_member xs n m) ≡ length xs + 1
length-put_member_new [] n m is = omega arith
length-put_member_new (x ∷ xs) zero m is = absurd (omega arith)
length-put_member_new (x ∷ xs) (suc n) m is = let rest = length-put_member_new xs n m (omega arith) in omega arith

-- the batch with one more member
abbrev pub with_member : Batch → Key × ℕ → Batch
with_member x m = record { members = x.members ++ m ∷ []; end = x.end }

pub get-put_member : (xs : List Batch) (n : ℕ) (m : Key × ℕ) (x : Batch) → slice_get xs n ≡ Some x → slice_get (put_member xs n m) n ≡ Some (with_member x m)
get-put_member [] n m x is = absurd (let bad : ◌≡◌ {A = Option Batch} None (Some x) = is in cc)
get-put_member (y ∷ xs) zero m x is = let same : ◌≡◌ {A = Option Batch} (Some y) (Some x) = is in let e : y ≡ x =
    cc in ap (λ (z : Batch). Some (with_member z m)) e
get-put_member (y ∷ xs) (suc n) m x is = get-put_member xs n m x is

-- a batch with one member
abbrev pub first_member : Key × ℕ → Batch
first_member m = record { members = m ∷ []; end = None }

pub get-put_member_new : (xs : List Batch) (n : ℕ) (m : Key × ℕ) → n ≡ length xs → slice_get (put_member xs n m) n ≡ Some (first_member m)
get-put_member_new [] zero m is = refl
get-put_member_new [] (suc n) m is = absurd (omega arith)
get-put_member_new (x ∷ xs) zero m is = absurd (omega arith)
get-put_member_new (x ∷ xs) (suc n) m is = get-put_member_new xs n m (omega arith)

pub get-put_member_other : (xs : List Batch) (n b : ℕ) (m : Key × ℕ) → n ≤ length xs → (b ≡ n → ⊥) → slice_get (put_member xs n m) b ≡ slice_get xs b
get-put_member_other [] zero zero m low other = absurd (other refl)
get-put_member_other [] zero (suc b) m low other = refl
get-put_member_other [] (suc n) b m low other = absurd (omega arith)
get-put_member_other (x ∷ xs) zero zero m low other = absurd (other refl)
get-put_member_other (x ∷ xs) zero (suc b) m low other = refl
get-put_member_other (x ∷ xs) (suc n) zero m low other = refl
get-put_member_other (x ∷ xs) (suc n) (suc b) m low other = get-put_member_other xs n b m (omega arith) (λ e. other (omega arith))

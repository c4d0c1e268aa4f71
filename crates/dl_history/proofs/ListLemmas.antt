-- Lists that grow at their end, or of which one element is changed.
use Rattle.std.proofs.Common.{◌≡◌, ◌∙◌, sym, ap, ℕ, zero, suc, ◌+◌, ◌-◌, ◌<◌, ◌≤◌, ◌⊎◌, inl, inr, true, nat_lt, List, [], ◌∷◌, ◌++◌, length, take, map, set, Option}
use Rattle.std.proofs.Common.{Some, None, slice_get, get_or, refl, arith}
use Rattle.std.specs.List.{repeat}
use Rattle.std.proofs.lemmas.Bool.{ltb-true}
use Rattle.std.proofs.lemmas.Option.{slice_get_read}
use Rattle.dl_history.specs.Lists.{Every, Among, total}

-- ---- the element at a place

-- below the length of a list, what follows it changes nothing
pub get-append : {X : Type 0} (xs ys : List X) (i : ℕ) → i < length xs → slice_get (xs ++ ys) i ≡ slice_get xs i
get-append [] ys i low = absurd (omega arith)
get-append (x ∷ xs) ys zero low = refl
get-append (x ∷ xs) ys (suc i) low = get-append xs ys i (omega arith)

-- at its length stands the first of what follows it
pub get-append_at : {X : Type 0} (xs : List X) (y : X) (ys : List X) → slice_get (xs ++ y ∷ ys) (length xs) ≡ Some y
get-append_at [] y ys = refl
get-append_at (x ∷ xs) y ys = get-append_at xs y ys

-- an element of a list with one more is one of the list's, or the one more
pub get-snoc : {X : Type 0} (xs : List X) (y z : X) (i : ℕ) → slice_get (xs ++ y ∷ []) i ≡ Some z
    → ((i < length xs) × (slice_get xs i ≡ Some z)) ⊎ ((i ≡ length xs) × (z ≡ y))
get-snoc {X} [] y z zero got = let two : ◌≡◌ {A = Option X} (Some y) (Some z) = got in let is : z ≡ y = cc in inr (refl, is)
get-snoc {X} [] y z (suc i) got = absurd (let bad : ◌≡◌ {A = Option X} None (Some z) = got in cc)
get-snoc (x ∷ xs) y z zero got = inl (omega arith, got)
get-snoc {X} (x ∷ xs) y z (suc i) got = by (get-snoc xs y z i got)
  where
    by : ((i < length xs) × (slice_get xs i ≡ Some z)) ⊎ ((i ≡ length xs) × (z ≡ y))
        → ((suc i < length (x ∷ xs)) × (slice_get xs i ≡ Some z)) ⊎ ((suc i ≡ length (x ∷ xs)) × (z ≡ y))
    by (inl old) = inl (let l = old.0 in omega arith, old.1)
    by (inr new) = inr (let l = new.0 in omega arith, new.1)

-- a list has an element at each place below its length
pub get-inside : {X : Type 0} (xs : List X) (i : ℕ) → i < length xs → slice_get xs i ≡ None → ⊥
get-inside [] i low none = absurd (omega arith)
get-inside {X} (x ∷ xs) zero low none = let bad : ◌≡◌ {A = Option X} (Some x) None = none in cc
get-inside (x ∷ xs) (suc i) low none = get-inside xs i (omega arith) none

-- the front up to an element and that element
pub take-get : {X : Type 0} (xs : List X) (i : ℕ) (x : X) → slice_get xs i ≡ Some x → take (suc i) xs ≡ take i xs ++ x ∷ []
take-get {X} [] i x got = absurd (let bad : ◌≡◌ {A = Option X} None (Some x) = got in cc)
take-get {X} (y ∷ xs) zero x got = let two : ◌≡◌ {A = Option X} (Some y) (Some x) = got in let is : y ≡ x = cc in rw is refl
take-get {X} (y ∷ xs) (suc i) x got = ap (λ (zs : List X). y ∷ zs) (take-get xs i x got)

-- an element of two lists, one after the other, is one of the first's, or stands past it as one of the second's
pub get-append_cases : {X : Type 0} (xs ys : List X) (i : ℕ) (z : X) → slice_get (xs ++ ys) i ≡ Some z
    → ((i < length xs) × (slice_get xs i ≡ Some z)) ⊎ ((length xs ≤ i) × (slice_get ys (i - length xs) ≡ Some z))
get-append_cases [] ys i z got = inr (omega arith, let same : i - 0 ≡ i = omega arith in rw same got)
get-append_cases (x ∷ xs) ys zero z got = inl (omega arith, got)
get-append_cases {X} (x ∷ xs) ys (suc i) z got = by (get-append_cases xs ys i z got)
  where
    by : ((i < length xs) × (slice_get xs i ≡ Some z)) ⊎ ((length xs ≤ i) × (slice_get ys (i - length xs) ≡ Some z))
        → ((suc i < length (x ∷ xs)) × (slice_get xs i ≡ Some z)) ⊎ ((length (x ∷ xs) ≤ suc i) × (slice_get ys (suc i - length (x ∷ xs)) ≡ Some z))
    by (inl old) = inl (let l = old.0 in omega arith, old.1)
    by (inr new) =
        let same : suc i - length (x ∷ xs) ≡ i - length xs = omega arith in
        inr (let l = new.0 in omega arith, ap (slice_get ys) same ∙ new.1)

-- each element of one repeated is that one
pub get-repeat : {X : Type 0} (n : ℕ) (x z : X) (i : ℕ) → slice_get (repeat n (x ∷ [])) i ≡ Some z → z ≡ x
get-repeat {X} zero x z i got = absurd (let bad : ◌≡◌ {A = Option X} None (Some z) = got in cc)
get-repeat {X} (suc n) x z zero got = let two : ◌≡◌ {A = Option X} (Some x) (Some z) = got in cc
get-repeat (suc n) x z (suc i) got = get-repeat n x z i got

pub length-repeat_one : {X : Type 0} (n : ℕ) (x : X) → length (repeat n (x ∷ [])) ≡ n
length-repeat_one zero x = refl
length-repeat_one (suc n) x = let rest = length-repeat_one n x in omega arith

-- what stands at a place that was set is what was put there
pub get-set_same : {X : Type 0} (xs : List X) (i : ℕ) (x z : X) → slice_get (set xs i x) i ≡ Some z → z ≡ x
get-set_same {X} [] i x z got = absurd (let bad : ◌≡◌ {A = Option X} None (Some z) = got in cc)
get-set_same {X} (y ∷ xs) zero x z got = let two : ◌≡◌ {A = Option X} (Some x) (Some z) = got in cc
get-set_same (y ∷ xs) (suc i) x z got = get-set_same xs i x z got

-- what stands at a place still does in a longer list
pub get_longer : {X : Type 0} (xs ys : List X) (i : ℕ) (x : X) → slice_get xs i ≡ Some x → slice_get (xs ++ ys) i ≡ Some x
get_longer {X} [] ys i x at = let is : ◌≡◌ {A = Option X} None (Some x) = at in absurd cc
get_longer (z ∷ xs) ys zero x at = at
get_longer (z ∷ xs) ys (suc i) x at = get_longer xs ys i x at

pub among_longer : {X : Type 0} (x : X) (xs ys : List X) → Among x xs → Among x (xs ++ ys)
among_longer x xs ys among = (among.0, get_longer xs ys among.0 x among.1)

pub total-append : {X : Type 0} (f : X → ℕ) (xs ys : List X) → total f (xs ++ ys) ≡ total f xs + total f ys
total-append f [] ys = omega arith
total-append f (x ∷ xs) ys = let rest = total-append f xs ys in omega arith

pub every_append : {X : Type 0} (P : X → Type 0) (xs ys : List X) → Every P xs → Every P ys → Every P (xs ++ ys)
every_append P [] ys left right = right
every_append P (x ∷ xs) ys left right = (left.0, every_append P xs ys left.1 right)

pub every_weaker : {X : Type 0} (P Q : X → Type 0) (xs : List X) → ((x : X) → P x → Q x) → Every P xs → Every Q xs
every_weaker P Q [] weaker each = tt
every_weaker P Q (x ∷ xs) weaker each = (weaker x each.0, every_weaker P Q xs weaker each.1)

pub every_at : {X : Type 0} (P : X → Type 0) (xs : List X) (i : ℕ) (x : X) → slice_get xs i ≡ Some x → Every P xs → P x
every_at {X} P [] i x at each = let is : ◌≡◌ {A = Option X} None (Some x) = at in absurd cc
every_at {X} P (z ∷ xs) zero x at each =
    let is : ◌≡◌ {A = Option X} (Some z) (Some x) = at in
    let e : z ≡ x = cc in
    rw (← e) each.0
every_at P (z ∷ xs) (suc i) x at each = every_at P xs i x at each.1

pub every_set : {X : Type 0} (P : X → Type 0) (xs : List X) (i : ℕ) (y : X) → P y → Every P xs → Every P (set xs i y)
every_set P [] i y new each = tt
every_set P (x ∷ xs) zero y new each = (new, each.1)
every_set P (x ∷ xs) (suc i) y new each = (each.0, every_set P xs i y new each.1)

pub every_among : {X : Type 0} (P : X → Type 0) (xs : List X) (x : X) → Among x xs → Every P xs → P x
every_among P xs x among every = every_at P xs among.0 x among.1 every

pub every_map : {X Y : Type 0} (f : X → Y) (P : Y → Type 0) (xs : List X) → Every (λ x. P (f x)) xs → Every P (map f xs)
every_map f P [] each = tt
every_map f P (x ∷ xs) each = (each.0, every_map f P xs each.1)

pub every_from : {X : Type 0} (P : X → Type 0) (xs : List X) → ((k : ℕ) (x : X) → slice_get xs k ≡ Some x → P x) → Every P xs
every_from P [] each = tt
every_from P (x ∷ xs) each = (each 0 x refl, every_from P xs (λ k y got. each (suc k) y got))

-- an element that was looked up stands at its place
pub looked_up : {X : Type 0} (xs : List X) (k : ℕ) (x : X) → true ≡ nat_lt k (length xs) → x ≡ get_or xs k x → slice_get xs k ≡ Some x
looked_up xs k x inside is = slice_get_read xs (length xs) k x refl (ltb-true k (length xs) (sym inside)) is

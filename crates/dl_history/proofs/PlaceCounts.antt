-- Parts of a list: where each part has some of the places of its own elements, in order, and all parts together
-- have as many places as there are elements, each part has all places of its own elements.
use Rattle.std.proofs.Common.{◌≡◌, ◌∙◌, sym, ap, ℕ, suc, ◌+◌, ◌-◌, ◌≤◌, ◌⊎◌, inl, inr, Bool, true, false, cond, List, [], ◌∷◌, length, Option, Some, None}
use Rattle.std.proofs.Common.{slice_get, nat_eq, sum_by, count_by, refl, arith}
use Rattle.std.proofs.lemmas.Bool.{cases_eq, eq-eqb}
use Rattle.std.proofs.lemmas.List.Sums.{sum_by-cons}
use Rattle.dl_history.specs.Lists.{Every, places, one_if}

-- each place is above those before it, and the first is at least k
abbrev pub Rises : ℕ → List ℕ → Type 0
Rises k [] = Unit {0}
Rises k (p ∷ ps) = (k ≤ p) × Rises (p + 1) ps

-- an element that is n's stands at a place
pub record StandsAt {X : Type 0} (who : X → ℕ) (n : ℕ) (xs : List X) (i : ℕ) : Type 0 where
  pub element : X
  pub there : slice_get xs i ≡ Some element
  pub own : who element ≡ n

-- each of these is the place, counted from k, of an element that is n's
abbrev pub Stand : {X : Type 0} → (X → ℕ) → ℕ → ℕ → List X → List ℕ → Type 0
Stand who n k xs [] = Unit {0}
Stand who n k xs (p ∷ ps) = StandsAt who n xs (p - k) × Stand who n k xs ps

-- ---- the places of one

rises_lower : (j k : ℕ) (ps : List ℕ) → j ≤ k → Rises k ps → Rises j ps
rises_lower j k [] low rises = tt
rises_lower j k (p ∷ ps) low rises = (let above = rises.0 in omega arith, rises.1)

stands_rest : {X : Type 0} (who : X → ℕ) (n i j : ℕ) (x : X) (xs : List X) → i ≡ suc j → StandsAt who n (x ∷ xs) i → StandsAt who n xs j
stands_rest who n i j x xs past at = record { element = at.element; there = rw past at at.there; own = at.own }

-- places past the first element are places of the rest
stand_rest : {X : Type 0} (who : X → ℕ) (n k : ℕ) (x : X) (xs : List X) (ps : List ℕ) → Rises (k + 1) ps → Stand who n k (x ∷ xs) ps → Stand who n (k + 1) xs ps
stand_rest who n k x xs [] rises stand = tt
stand_rest who n k x xs (p ∷ ps) rises stand =
    let above = rises.0 in
    let past : p - k ≡ suc (p - (k + 1)) = omega arith in
    (stands_rest who n (p - k) (p - (k + 1)) x xs past stand.0, stand_rest who n k x xs ps (rises_lower (k + 1) (p + 1) ps (omega arith) rises.1) stand.1)

-- the element at the first place
stands_first : {X : Type 0} (who : X → ℕ) (n i : ℕ) (x : X) (xs : List X) → i ≡ 0 → StandsAt who n (x ∷ xs) i → who x ≡ n
stands_first {X} who n i x xs first at =
    let two : ◌≡◌ {A = Option X} (Some x) (Some at.element) = rw first at at.there in
    let same : x ≡ at.element = cc in
    ap who same ∙ at.own

-- no more than all of these, and where they are as many, all of these
pub record AllOrFewer (ps all : List ℕ) : Type 0 where
  pub few : length ps ≤ length all
  pub whole : length ps ≡ length all → ps ≡ all

none_or_fewer : (all : List ℕ) → AllOrFewer [] all
none_or_fewer [] = record { few = omega arith; whole = λ same. refl }
none_or_fewer (p ∷ all) = record { few = omega arith; whole = λ same. absurd (omega arith) }

-- one place more that is left out
one_left : (b : Bool) (k : ℕ) (ps all : List ℕ) → AllOrFewer ps all → AllOrFewer ps (cond b (k ∷ all) all)
one_left true k ps all rest = record { few = let l = rest.few in omega arith; whole = λ same. let l = rest.few in absurd (omega arith) }
one_left false k ps all rest = rest

-- one place more on both sides
one_taken : (k : ℕ) (ps all : List ℕ) → AllOrFewer ps all → AllOrFewer (k ∷ ps) (k ∷ all)
one_taken k ps all rest = record { few = let l = rest.few in omega arith; whole = λ same. ap (λ (qs : List ℕ). k ∷ qs) (rest.whole (omega arith)) }

-- rising places of n's elements are no more than all of them, and all where they are as many
all_or_fewer : {X : Type 0} (who : X → ℕ) (n k : ℕ) (xs : List X) (ps : List ℕ) → Rises k ps → Stand who n k xs ps → AllOrFewer ps (places who n k xs)
all_or_fewer who n k xs [] rises stand = none_or_fewer (places who n k xs)
all_or_fewer {X} who n k [] (p ∷ ps) rises stand = absurd (let bad : ◌≡◌ {A = Option X} None (Some stand.0.element) = stand.0.there in cc)
all_or_fewer who n k (x ∷ xs) (p ∷ ps) rises stand = by (λ qs. all_or_fewer who n (k + 1) xs qs) (cases_eq p k)
  where
    by : ((qs : List ℕ) → Rises (k + 1) qs → Stand who n (k + 1) xs qs → AllOrFewer qs (places who n (k + 1) xs)) → (p ≡ k) ⊎ (p ≡ k → ⊥)
        → AllOrFewer (p ∷ ps) (places who n k (x ∷ xs))
    by rest (inl same) =
        let own : who x ≡ n = stands_first who n (p - k) x xs (omega arith) stand.0 in
        let after : Rises (k + 1) ps = rw same at rises.1 in
        rw (eq-eqb (who x) n own, same) (one_taken k ps (places who n (k + 1) xs) (rest ps after (stand_rest who n k x xs ps after stand.1)))
    by rest (inr other) =
        let above = rises.0 in
        let later : Rises (k + 1) (p ∷ ps) = (omega arith, rises.1) in
        one_left (nat_eq (who x) n) k (p ∷ ps) (places who n (k + 1) xs) (rest (p ∷ ps) later (stand_rest who n k x xs (p ∷ ps) later stand))

-- ---- the places of all

-- how many of the parts are n's
abbrev pub parts_of : {P : Type 0} → (P → ℕ) → ℕ → List P → ℕ
parts_of caller n parts = count_by (λ p. nat_eq n (caller p)) parts

none_at_all : {P : Type 0} (parts : List P) → sum_by (λ p. 0) parts ≡ 0
none_at_all [] = refl
none_at_all {P} (p ∷ parts) = let zero : P → ℕ = λ q. 0 in let rest = none_at_all parts in let all = sum_by-cons zero p parts in omega arith

length-one : (b : Bool) (k : ℕ) (ps : List ℕ) → length (cond b (k ∷ ps) ps) ≡ one_if b + length ps
length-one true k ps = omega arith
length-one false k ps = omega arith

-- one element more is at one place more of each part that is its own
one_more : {X P : Type 0} (who : X → ℕ) (caller : P → ℕ) (k : ℕ) (x : X) (xs : List X) (parts : List P)
    → sum_by (λ p. length (places who (caller p) k (x ∷ xs))) parts ≡ sum_by (λ p. one_if (nat_eq (who x) (caller p))) parts + sum_by
    (λ p. length (places who (caller p) (k + 1) xs)) parts
one_more who caller k x xs [] = refl
one_more who caller k x xs (p ∷ parts) =
    let rest = one_more who caller k x xs parts in
    let all = sum_by-cons (λ q. length (places who (caller q) k (x ∷ xs))) p parts in
    let first = sum_by-cons (λ q. one_if (nat_eq (who x) (caller q))) p parts in
    let later = sum_by-cons (λ q. length (places who (caller q) (k + 1) xs)) p parts in
    let one_there = length-one (nat_eq (who x) (caller p)) k (places who (caller p) (k + 1) xs) in
    omega arith

-- where each element is one part's, the places of all parts together are as many as the elements
all_places : {X P : Type 0} (who : X → ℕ) (caller : P → ℕ) (k : ℕ) (xs : List X) (parts : List P) → Every (λ x. parts_of caller (who x) parts ≡ 1) xs
    → sum_by (λ p. length (places who (caller p) k xs)) parts ≡ length xs
all_places who caller k [] parts each = none_at_all parts
all_places who caller k (x ∷ xs) parts each =
    let more = one_more who caller k x xs parts in
    let once = each.0 in
    let rest = all_places who caller (k + 1) xs parts each.1 in
    omega arith

-- ---- sums

sum_le : {P : Type 0} (f g : P → ℕ) (parts : List P) → Every (λ p. f p ≤ g p) parts → sum_by f parts ≤ sum_by g parts
sum_le f g [] each = omega arith
sum_le f g (p ∷ parts) each =
    let rest = sum_le f g parts each.1 in
    let first = each.0 in
    let left = sum_by-cons f p parts in
    let right = sum_by-cons g p parts in
    omega arith

-- where each is at most another and they add up to the same, each is the other
squeeze : {P : Type 0} (f g : P → ℕ) (parts : List P) → Every (λ p. f p ≤ g p) parts → sum_by f parts ≡ sum_by g parts → Every (λ p. f p ≡ g p) parts
squeeze f g [] each same = tt
squeeze f g (p ∷ parts) each same =
    let rest = sum_le f g parts each.1 in
    let first = each.0 in
    let left = sum_by-cons f p parts in
    let right = sum_by-cons g p parts in
    (omega arith, squeeze f g parts each.1 (omega arith))

-- ---- each part

-- the places rise, and each is of an element of its own
pub record AreOwn {X : Type 0} (who : X → ℕ) (xs : List X) (n : ℕ) (ps : List ℕ) : Type 0 where
  pub rises : Rises 0 ps
  pub stand : Stand who n 0 xs ps

every_few : {X P : Type 0} (who : X → ℕ) (xs : List X) (caller : P → ℕ) (calls : P → List ℕ) (parts : List P)
    → Every (λ p. AreOwn who xs (caller p) (calls p)) parts
    → Every (λ p. length (calls p) ≤ length (places who (caller p) 0 xs)) parts
every_few who xs caller calls [] own = tt
every_few who xs caller calls (p ∷ parts) own =
    ((all_or_fewer who (caller p) 0 xs (calls p) own.0.rises own.0.stand).few, every_few who xs caller calls parts own.1)

every_whole : {X P : Type 0} (who : X → ℕ) (xs : List X) (caller : P → ℕ) (calls : P → List ℕ) (parts : List P)
    → Every (λ p. AreOwn who xs (caller p) (calls p)) parts
    → Every (λ p. length (calls p) ≡ length (places who (caller p) 0 xs)) parts → Every (λ p. calls p ≡ places who (caller p) 0 xs) parts
every_whole who xs caller calls [] own same = tt
every_whole who xs caller calls (p ∷ parts) own same =
    ((all_or_fewer who (caller p) 0 xs (calls p) own.0.rises own.0.stand).whole same.0, every_whole who xs caller calls parts own.1 same.1)

-- Where each part has rising places of elements of its own, each element is one part's, and there are as many
-- places as elements, each part has all places of its own elements.
pub each_is_its_part : {X P : Type 0} (who : X → ℕ) (xs : List X) (caller : P → ℕ) (calls : P → List ℕ) (parts : List P)
    → Every (λ p. AreOwn who xs (caller p) (calls p)) parts
    → Every (λ x. parts_of caller (who x) parts ≡ 1) xs
    → sum_by (λ p. length (calls p)) parts ≡ length xs
    → Every (λ p. calls p ≡ places who (caller p) 0 xs) parts
each_is_its_part who xs caller calls parts own once count =
    let few = every_few who xs caller calls parts own in
    let all = all_places who caller 0 xs parts once in
    every_whole who xs caller calls parts own (squeeze (λ p. length (calls p)) (λ p. length (places who (caller p) 0 xs)) parts few (count ∙ sym all))

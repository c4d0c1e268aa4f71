-- What a list of values spells, read one by one.
use Rattle.std.proofs.Common.{◌≡◌, ℕ, zero, suc, ◌<◌, List, [], ◌∷◌, ◌++◌, length, get_or, take, map, Some, refl, sym, ap, ◌∙◌, arith}
use Rattle.std.proofs.Common.{subst, append-nil}
use Rattle.std.proofs.lemmas.List.{map-append, length-map}
use Rattle.std.proofs.lemmas.Option.{none-some, same_Some, slice_get-map, slice_get-get_or}
use Rattle.std.specs.List.{AllByRecursion, slice_get}
use Rattle.serde_json.specs.Data.{Data}
use Rattle.serde_json.specs.Events.{items_len}
use Rattle.serde_json.specs.Find.{get_item}
use Rattle.serde_json.specs.View.{items_of}
use Rattle.dl_terms.proofs.Options.{from_map}
use Rattle.dl_documents.specs.Inside.Places.{IsFirst}

-- ---- items of a tree

pub get_item-items_of : (ds : List Data) (n : ℕ) → get_item n (items_of ds) ≡ slice_get ds n
get_item-items_of [] n = refl
get_item-items_of (d ∷ ds) zero = refl
get_item-items_of (d ∷ ds) (suc n) = get_item-items_of ds n

pub items_len-items_of : (ds : List Data) → items_len (items_of ds) ≡ length ds
items_len-items_of [] = refl
items_len-items_of (d ∷ ds) = ap suc (items_len-items_of ds)

-- ---- what holds of each item

pub all_at : {A : Type 0} (P : A → Type 0) (xs : List A) (n : ℕ) (x : A) → AllByRecursion P xs → slice_get xs n ≡ Some x → P x
all_at P [] n x all e = absurd (none-some x e)
all_at P (y ∷ ys) zero x all e = let same : y ≡ x = same_Some y x e in rw (← same) all.0
all_at P (y ∷ ys) (suc n) x all e = all_at P ys n x all.1 e

pub all_more : {A : Type 0} (P : A → Type 0) (xs : List A) (x : A) → AllByRecursion P xs → P x → AllByRecursion P (xs ++ x ∷ [])
all_more P [] x all h = (h, tt)
all_more P (y ∷ ys) x all h = (all.0, all_more P ys x all.1 h)

-- an item of a list that was made from another comes from one of it
pub from_item : {A B : Type 0} (f : A → B) (xs : List A) (n : ℕ) (y : B) → slice_get (map f xs) n ≡ Some y → (x : A) × (slice_get xs n ≡ Some x) × (y ≡ f x)
from_item f xs n y e = from_map f (slice_get xs n) y (sym (slice_get-map f xs n) ∙ e)

pub item_made : {A B : Type 0} (f : A → B) (xs : List A) (n : ℕ) (x : A) → slice_get xs n ≡ Some x → slice_get (map f xs) n ≡ Some (f x)
item_made f xs n x e = slice_get-map f xs n ∙ rw e refl

-- ---- what was read so far

abbrev pub IsAny : {A : Type 0} → A → Type 0
IsAny x = Unit {0}

module _ {V D : Type 0} (see : V → D) where
  -- an item before place i stands in front of it
  pub in_front : (vs : List V) (i m : ℕ) → m < i → slice_get (map see (take i vs)) m ≡ slice_get (map see vs) m
  in_front [] zero m low = refl
  in_front [] (suc i) m low = refl
  in_front (v ∷ vs) zero m low = absurd (omega arith)
  in_front (v ∷ vs) (suc i) zero low = refl
  in_front (v ∷ vs) (suc i) (suc m) low = in_front vs i m (omega arith)

  -- the item that is read now
  pub item_now : (vs : List V) (i : ℕ) (v : V) → i < length vs → v ≡ get_or vs i v → slice_get (map see vs) i ≡ Some (see v)
  item_now vs i v low at = item_made see vs i v (slice_get-get_or vs i v low ∙ ap Some (sym at))

-- the values are the trees of what they spell
pub record Spell {V D A : Type 0} (see : V → D) (spell : A → D) (Is : A → Type 0) (vs : List V) (xs : List A) : Type 0 where
  pub trees : map see vs ≡ map spell xs
  pub all : AllByRecursion Is xs

-- as many values as there are things that they spell
pub spell_size : {V D A : Type 0} (see : V → D) (spell : A → D) (Is : A → Type 0) (vs : List V) (xs : List A) → Spell see spell Is vs xs → length vs ≡ length xs
spell_size see spell Is vs xs h = sym (length-map vs see) ∙ ap length h.trees ∙ length-map xs spell

-- once nothing is left, what was yielded is the whole list
pub all_yielded : {V : Type 0} (front rest vs : List V) → front ++ rest ≡ vs → length rest ≡ 0 → front ≡ vs
all_yielded front [] vs is none = sym (append-nil front) ∙ is
all_yielded front (v ∷ rest) vs is none = absurd (omega arith)

-- a place in a list: what stands in front of it, and what there
pub record IsPlace {V : Type 0} (front : List V) (v : V) (vs : List V) : Type 0 where
  pub low : length front < length vs
  pub at : v ≡ get_or vs (length front) v
  pub cut : take (length front) vs ≡ front

place_in : {V : Type 0} (front : List V) (v : V) (rest : List V) → IsPlace front v (front ++ v ∷ rest)
place_in [] v rest = record { low = omega arith; at = refl; cut = refl }
place_in (w ∷ front) v rest =
    let p = place_in front v rest in
    record { low = (let h = p.low in omega arith); at = p.at; cut = ap (λ l. w ∷ l) p.cut }

pub place_of : {V : Type 0} (front : List V) (v : V) (rest vs : List V) → front ++ v ∷ rest ≡ vs → IsPlace front v vs
place_of front v rest vs is = subst (IsPlace front v) is (place_in front v rest)

module _ {V D A : Type 0} (see : V → D) (spell : A → D) (Is : A → Type 0) where
  -- one more
  pub spell_next : (vs : List V) (v : V) (xs : List A) (x : A) → Spell see spell Is vs xs → see v ≡ spell x → Is x
      → Spell see spell Is (vs ++ v ∷ []) (xs ++ x ∷ [])
  spell_next vs v xs x so_far tree is = record {
    trees = map-append see vs (v ∷ []) ∙ rw (so_far.trees, tree) (sym (map-append spell xs (x ∷ [])));
    all = all_more Is xs x so_far.all is;
  }

  -- an item among those that were read
  pub spelled_before : (vs : List V) (i m : ℕ) (xs : List A) (d : D) → Spell see spell Is (take i vs) xs → m < i → slice_get (map see vs) m ≡ Some d
      → (x : A) × (d ≡ spell x) × Is x
  spelled_before vs i m xs d so_far low there =
      let here : slice_get (map spell xs) m ≡ Some d = ap (λ ds. slice_get ds m) (sym so_far.trees) ∙ (in_front see vs i m low ∙ there) in
      let p = from_item spell xs m d here in
      (p.0, p.2, all_at Is xs m p.0 so_far.all p.1)

  -- the first item that spells nothing
  pub spell_stops : (Bad : D → Type 0) → ((x : A) → Is x → Bad (spell x) → ⊥) → (vs : List V) (i : ℕ) (v : V) (xs : List A)
      → i < length vs → v ≡ get_or vs i v → Spell see spell Is (take i vs) xs → Bad (see v) → IsFirst Bad (map see vs) i
  spell_stops Bad good vs i v xs low at so_far bad = record {
    item = see v;
    there = item_now see vs i v low at;
    bad = bad;
    first = λ m d below there wrong. let p = spelled_before vs i m xs d so_far below there in good p.0 p.2 (rw p.1 at wrong);
  }

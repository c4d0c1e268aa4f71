-- Keys beside their cells, as a stored batch has them.
use Rattle.std.proofs.Common.{◌≡◌, ◌∙◌, sym, ap, ℕ, zero, suc, ◌+◌, ◌<◌, ◌≤◌, min, inl, inr, false, List, [], ◌∷◌, ◌++◌, length, take, Option, Some, None}
use Rattle.std.proofs.Common.{slice_get, get_or, refl, arith, length-append}
use Rattle.std.specs.List.{zip, list_any}
use Rattle.std.proofs.lemmas.Bool.{cases_lt, cases_eq}
use Rattle.std.proofs.lemmas.Option.{slice_get_past, slice_get_read}
use Rattle.std.proofs.lemmas.List.{length-take, take-append-le, take_all, take_at, take-take}
use Rattle.indexmap.proofs.ReorderLemmas.{zip_push, zip-take}
use Rattle.indexmap.specs.IndexSet.{insert_key}
use Rattle.dl_values.specs.Key.{Key, key_eq}
use Rattle.dl_values.proofs.KeyLemmas.{key_eq-sym}
use Rattle.dl_desk.specs.History.{has_member}
use Rattle.dl_desk.specs.declared.reply.End.{End}
use Rattle.dl_desk.specs.Inside.StoredBatch.{StoredBatch, AreApart, AreMembers}
use Rattle.dl_desk.specs.BatchBook.{Batch}
use Rattle.dl_desk.specs.Inside.Preparation.{prepared_batch, shown_batch}
use Rattle.dl_desk.proofs.DispatchJobs.{get-take}
use Rattle.dl_desk.proofs.Tails.{get-append_left, get-append_last}
use Rattle.dl_desk.proofs.BatchEnd.{take-next}

-- there are as many members as cells
pub length-zip_same : (ks : List Key) (cs : List ℕ) → length ks ≡ length cs → length (zip ks cs) ≡ length cs
length-zip_same [] [] same = refl
length-zip_same [] (c ∷ cs) same = absurd (omega arith)
length-zip_same (k ∷ ks) [] same = absurd (omega arith)
length-zip_same (k ∷ ks) (c ∷ cs) same = let rest : length ks ≡ length cs = omega arith in rw (length-zip_same ks cs rest) refl

-- a member of the key is a key that is equal to it
pub has_member-zip : (ks : List Key) (cs : List ℕ) (k : Key) → length ks ≡ length cs → has_member (zip ks cs) k ≡ list_any (key_eq k) ks
has_member-zip [] cs k same = refl
has_member-zip (j ∷ ks) [] k same = absurd (omega arith)
has_member-zip (j ∷ ks) (c ∷ cs) k same =
    let rest : length ks ≡ length cs = omega arith in
    rw (has_member-zip ks cs k rest) refl

-- a look at each key
pub any-key : (ks : List Key) (k : Key) → list_any (λ j. key_eq j k) ks ≡ list_any (key_eq k) ks
any-key [] k = refl
any-key (j ∷ ks) k = rw (key_eq-sym j k, any-key ks k) refl

-- ---- the keys, each once, and an index of the first of them

pub apart_push : (ks : List Key) (k : Key) → AreApart ks → list_any (key_eq k) ks ≡ false → AreApart (ks ++ k ∷ [])
apart_push ks k apart none i q at = elim (cases_lt i (length ks)) [
  | inl inside ↦
      let here : slice_get ks i ≡ Some q = sym (get-append_left ks (k ∷ []) i inside) ∙ at in
      rw (take-append-le i ks (k ∷ []) (omega arith)) (apart i q here)
  | inr above ↦ elim (cases_eq i (length ks)) [
    | inl last ↦
        let two : ◌≡◌ {A = Option Key} (Some k) (Some q) = sym (get-append_last ks k i last) ∙ at in
        let is : k ≡ q = cc in
        rw (take_at ks (k ∷ []) i (sym last), ← is) none
    | inr past ↦
        let none : slice_get (ks ++ k ∷ []) i ≡ None = slice_get_past (ks ++ k ∷ []) i (rw length-append (omega arith)) in
        absurd (let bad : ◌≡◌ {A = Option Key} None (Some q) = sym none ∙ at in cc)
  ]
]

apart_take : (n : ℕ) (ks : List Key) → AreApart ks → AreApart (take n ks)
apart_take n ks apart i k at = elim (cases_lt i n) [
  | inl low ↦ rw (take-take i n ks (omega arith)) (apart i k (sym (get-take ks n i low) ∙ at))
  | inr high ↦
      let none : slice_get (take n ks) i ≡ None = slice_get_past (take n ks) i (rw length-take (omega arith)) in
      absurd (let bad : ◌≡◌ {A = Option Key} None (Some k) = sym none ∙ at in cc)
]

pub take_length : (n : ℕ) (ks : List Key) → take n ks ≡ take (length (take n ks)) ks
take_length zero ks = refl
take_length (suc n) [] = refl
take_length (suc n) (k ∷ ks) = ap (λ (xs : List Key). k ∷ xs) (take_length n ks)

front_low : (xs ks : List Key) → xs ≡ take (length xs) ks → length xs ≤ length ks
front_low xs ks is = let l : length xs ≡ min (length xs) (length ks) = ap length is ∙ length-take (length xs) ks in omega arith

front_take : (n : ℕ) (xs ks : List Key) → xs ≡ take (length xs) ks → take n xs ≡ take (length (take n xs)) (take n ks)
front_take zero xs ks is = refl
front_take (suc n) [] ks is = refl
front_take (suc n) (x ∷ xs) [] is = absurd (let bad : x ∷ xs ≡ [] = is in cc)
front_take (suc n) (x ∷ xs) (k ∷ ks) is =
    let e : x ∷ xs ≡ k ∷ take (length xs) ks = is in
    let first : x ≡ k = cc in
    let rest : xs ≡ take (length xs) ks = cc in
    rw first (ap (λ (ys : List Key). k ∷ ys) (front_take n xs ks rest))

-- the index has one key more
pub index_more : (ks : List Key) (i n : ℕ) (k : Key) (xs xs' : List Key) → AreApart ks → n ≡ length ks → i < n → k ≡ get_or ks i k → xs ≡ take i ks
    → xs' ≡ insert_key key_eq xs k → xs' ≡ take (i + 1) ks
index_more ks i n k xs xs' apart count low read front is =
    let at : slice_get ks i ≡ Some k = slice_get_read ks n i k count low read in
    let none : list_any (key_eq k) (take i ks) ≡ false = apart i k at in
    rw (take-next ks i k at) (is ∙ (rw (front, none) refl))

pub cut_members : (ks : List Key) (cs : List ℕ) (seen : ℕ) (index : List Key) → AreMembers ks cs seen index
    → AreMembers (take seen ks) (take seen cs) seen (take seen index)
cut_members ks cs seen index is = record {
  same = length-take seen ks ∙ ap (min seen) is.same ∙ sym (length-take seen cs);
  within = rw length-take (let w = is.within in omega arith);
  once = apart_take seen ks is.once;
  indexed = front_take seen index ks is.indexed;
}

-- the stored batch of these fields
abbrev pub stored : List Key → List ℕ → ℕ → Option End → StoredBatch
stored ks cs seen end = record { members = zip ks cs; seen = seen; end = end }

-- What a push leaves: the fields of the batch before and after it.
pub record IsPushed (ks : List Key) (cs : List ℕ) (seen : ℕ) (index : List Key) (k : Key) (c : ℕ) (ks' : List Key) (cs' : List ℕ) : Type 0 where
  pub before : AreMembers ks cs seen index
  pub keys : ks' ≡ ks ++ k ∷ []
  pub cells : cs' ≡ cs ++ c ∷ []
  pub new : has_member (zip ks cs) k ≡ false

module _ {ks : List Key} {cs : List ℕ} {seen : ℕ} {index : List Key} {k : Key} {c : ℕ} {ks' : List Key} {cs' : List ℕ}
    (p : IsPushed ks cs seen index k c ks' cs') where
  pub pushed : AreMembers ks' cs' seen index
  pushed = record {
    same = rw (p.keys, p.cells, length-append, length-append) (let s = p.before.same in omega arith);
    within = rw (p.cells, length-append) (let w = p.before.within in omega arith);
    once = rw p.keys (apart_push ks k p.before.once (sym (has_member-zip ks cs k p.before.same) ∙ p.new));
    indexed = rw p.keys (p.before.indexed ∙ sym (take-append-le (length index) ks (k ∷ []) (front_low index ks p.before.indexed)));
  }

  pub pushed_members : zip ks' cs' ≡ zip ks cs ++ (k, c) ∷ []
  pushed_members = rw (p.keys, p.cells) (zip_push ks cs k c (sym p.before.same))

  pub pushed_whole : (end : Option End) → prepared_batch (stored ks' cs' seen end) ≡ record { members = zip ks cs ++ (k, c) ∷ []; end = end }
  pushed_whole end = ap (λ (ms : List (Key × ℕ)). let b : Batch = record { members = ms; end = end } in b) pushed_members

  pub pushed_front : (end : Option End) → shown_batch (stored ks' cs' seen end) ≡ shown_batch (stored ks cs seen end)
  pushed_front end =
      let low : seen ≤ length (zip ks cs) = rw (length-zip_same ks cs p.before.same) p.before.within in
      let shown : take seen (zip ks' cs') ≡ take seen (zip ks cs) = rw pushed_members (take-append-le seen (zip ks cs) ((k, c) ∷ []) low) in
      ap (λ (ms : List (Key × ℕ)). let b : Batch = record { members = ms; end = end } in b) shown

-- cutting both at what is shown leaves the front
pub cut_whole : (ks : List Key) (cs : List ℕ) (seen : ℕ) (end : Option End)
    → prepared_batch (stored (take seen ks) (take seen cs) seen end) ≡ shown_batch (stored ks cs seen end)
cut_whole ks cs seen end = ap (λ (ms : List (Key × ℕ)). let b : Batch = record { members = ms; end = end } in b) (zip-take seen ks cs)

pub cut_front : (ks : List Key) (cs : List ℕ) (seen : ℕ) (end : Option End)
    → shown_batch (stored (take seen ks) (take seen cs) seen end) ≡ shown_batch (stored ks cs seen end)
cut_front ks cs seen end = ap (λ (ms : List (Key × ℕ)). let b : Batch = record { members = ms; end = end } in b)
    (ap (take seen) (zip-take seen ks cs) ∙ take-take seen seen (zip ks cs) (omega arith))

-- seeing all members shows the whole batch
pub show_front : (ks : List Key) (cs : List ℕ) (seen : ℕ) (end : Option End) → length ks ≡ length cs
    → shown_batch (stored ks cs (length cs) end) ≡ prepared_batch (stored ks cs seen end)
show_front ks cs seen end same =
    let all : take (length cs) (zip ks cs) ≡ zip ks cs = take_all (length cs) (zip ks cs) (let e = length-zip_same ks cs same in omega arith) in
    ap (λ (ms : List (Key × ℕ)). let b : Batch = record { members = ms; end = end } in b) all

-- the member at a place
pub get-zip : (ks : List Key) (cs : List ℕ) (i : ℕ) (k : Key) (c : ℕ) → length ks ≡ length cs → i < length ks → k ≡ get_or ks i k → c ≡ get_or cs i c
    → slice_get (zip ks cs) i ≡ Some (k, c)
get-zip [] cs i k c same low key cell = absurd (omega arith)
get-zip (j ∷ ks) [] i k c same low key cell = absurd (omega arith)
get-zip (j ∷ ks) (d ∷ cs) zero k c same low key cell = rw (key, cell) refl
get-zip (j ∷ ks) (d ∷ cs) (suc i) k c same low key cell = get-zip ks cs i k c (omega arith) (omega arith) key cell

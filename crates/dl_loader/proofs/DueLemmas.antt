-- The dues of cells, given one by one.
use Rattle.std.proofs.Common.{◌≡◌, ◌∙◌, sym, ap, subst, ℕ, zero, suc, ◌+◌, ◌<◌, ◌≤◌, ◌⊎◌, inl, inr, Bool, cond, List, [], ◌∷◌, ◌++◌, length, map, set, take}
use Rattle.std.proofs.Common.{Option, Some, None, MatchBool, slice_get, get_or, option_map, refl, arith}
use Rattle.std.proofs.lemmas.List.{length-set, take_more}
use Rattle.std.proofs.lemmas.List.Sums.{sum_by-cons}
use Rattle.std.proofs.lemmas.Option.{slice_get_within, slice_get_read, slice_get-map}
use Rattle.dl_loader.specs.declared.dues.Due.{Due}
use Rattle.dl_desk.specs.declared.event.Call.{Call}
use Rattle.dl_desk.specs.declared.event.Ending.{Ending}
use Rattle.dl_history.specs.Journal.{Cell, waiting, showing, refused, Refuses, is_refused, refusals}
use Rattle.dl_history.specs.LoaderState.{ShowsEnd}
use Rattle.dl_loader.specs.Inside.Dues.{outcome_by, AreDue, CanEnd, AreGiven}
use Rattle.dl_desk.proofs.Tails.{get-set_other}
use Rattle.dl_history.proofs.CellLists.{gets_end}
use Rattle.dl_history.proofs.ListLemmas.{get-append_at, get-set_same, get-snoc, get_longer}

-- ---- elements of lists

-- what a list of values has at a place comes from what the list has there
pub get_mapped : {X Y : Type 0} (f : X → Y) (xs : List X) (i : ℕ) (x : X) → slice_get xs i ≡ Some x → slice_get (map f xs) i ≡ Some (f x)
get_mapped f xs i x got = slice_get-map f xs i ∙ ap (option_map f) got

pub unmapped : {X Y : Type 0} (f : X → Y) (xs : List X) (i : ℕ) (y : Y) → slice_get (map f xs) i ≡ Some y → (x : X) × (slice_get xs i ≡ Some x) × (f x ≡ y)
unmapped {X} {Y} f [] i y got = absurd (let bad : ◌≡◌ {A = Option Y} None (Some y) = got in cc)
unmapped {X} {Y} f (x ∷ xs) zero y got = (x, refl, let two : ◌≡◌ {A = Option Y} (Some (f x)) (Some y) = got in cc)
unmapped f (x ∷ xs) (suc i) y got = unmapped f xs i y got

-- ---- the dues of cells

map-snoc : {X Y : Type 0} (f : X → Y) (xs : List X) (x : X) → map f (xs ++ x ∷ []) ≡ map f xs ++ f x ∷ []
map-snoc f [] x = refl
map-snoc {X} {Y} f (y ∷ xs) x = ap (λ (ys : List Y). f y ∷ ys) (map-snoc f xs x)

due_there : (call : Call) (at : ℕ) (cells : List ℕ) (dues : List Due) (d e : Due) (j : ℕ) → AreDue call at cells dues
    → outcome_by call (length dues) ≡ Some d.ending.outcome → d.ending.at ≡ at
    → ((j < length dues) × (slice_get dues j ≡ Some e)) ⊎ ((j ≡ length dues) × (e ≡ d))
    → (outcome_by call j ≡ Some e.ending.outcome) × (e.ending.at ≡ at)
due_there call at cells dues d e j due brings place (inl old) = due.ends_are j e old.1
due_there call at cells dues d e j due brings place (inr new) = rw (new.0, new.1) (brings, place)

-- the due of one cell more
pub due_more : (call : Call) (at n : ℕ) (cells : List ℕ) (dues longer : List Due) (d : Due) → AreDue call at (take n cells) dues → length dues ≡ n
    → n < length cells → d.cell ≡ get_or cells n 0 → outcome_by call n ≡ Some d.ending.outcome → d.ending.at ≡ at → longer ≡ dues ++ d ∷ []
    → AreDue call at (take (n + 1) cells) longer
due_more call at n cells dues longer d due count low is brings place grown =
    let own : outcome_by call (length dues) ≡ Some d.ending.outcome = ap (outcome_by call) count ∙ brings in
    record {
      cells_are = rw (grown, map-snoc (λ (e : Due). e.cell) dues d, due.cells_are, is, take_more cells n 0 low) refl;
      ends_are = λ j e got. due_there call at (take n cells) dues d e j due own place (get-snoc dues d e j (rw grown at got));
    }

-- ---- one given after another

map-same : {X : Type 0} (xs : List X) → map (λ x. x) xs ≡ xs
map-same [] = refl
map-same {X} (x ∷ xs) = ap (λ (ys : List X). x ∷ ys) (map-same xs)

-- those that were taken first
pub front_is : (ys all : List Due) → map (λ x. x) ys ≡ take (length ys) all → ys ≡ take (length ys) all
front_is ys all is = sym (map-same ys) ∙ is

-- those before a place have other cells than the one there
apart : (all : List Due) (before : List Cell) (ys : List Due) (d e : Due) (j : ℕ) → CanEnd (map (λ x. x.cell) all) before → ys ≡ take (length ys) all
    → length ys < length all → d ≡ get_or all (length ys) d
    → slice_get ys j ≡ Some e → e.cell ≡ d.cell → ⊥
apart all before ys d e j can front low is got same =
    let inside : j < length ys = slice_get_within ys j e got in
    let here : slice_get all (length ys) ≡ Some d = slice_get_read all (length all) (length ys) d refl low is in
    let there : slice_get all j ≡ Some e = front_get ys all j e front got in
    let two : j ≡ length ys =
    can.distinct j (length ys) d.cell (get_mapped (λ (x : Due). x.cell) all j e there ∙ ap (λ (c : ℕ). Some c) same)
    (get_mapped (λ (x : Due). x.cell) all (length ys) d here) in
    absurd (omega arith)
  where
    get_front : {X : Type 0} (xs : List X) (n i : ℕ) (x : X) → slice_get (take n xs) i ≡ Some x → slice_get xs i ≡ Some x
    get_front {X} xs zero i x got = absurd (let bad : ◌≡◌ {A = Option X} None (Some x) = got in cc)
    get_front [] (suc n) i x got = got
    get_front (y ∷ xs) (suc n) zero x got = got
    get_front (y ∷ xs) (suc n) (suc i) x got = get_front xs n i x got

    front_get : (ys all : List Due) (j : ℕ) (e : Due) → ys ≡ take (length ys) all → slice_get ys j ≡ Some e → slice_get all j ≡ Some e
    front_get ys all j e front got = get_front all (length ys) j e (ap (λ (zs : List Due). slice_get zs j) (sym front) ∙ got)

-- the cell of the next due waits
pub next_waits : (all ys : List Due) (before now : List Cell) (d : Due) → CanEnd (map (λ x. x.cell) all) before → ys ≡ take (length ys) all
    → length ys < length all → d ≡ get_or all (length ys) d → AreGiven ys before now → slice_get now d.cell ≡ Some waiting
next_waits all ys before now d can front low is given =
    let here : slice_get all (length ys) ≡ Some d = slice_get_read all (length all) (length ys) d refl low is in
    given.others d.cell (λ j e got same. apart all before ys d e j can front low is got same) ∙ can.waits (length ys) d.cell
    (get_mapped (λ (x : Due). x.cell) all (length ys) d here)

-- and is one of those that there are
pub next_inside : (all ys : List Due) (before now : List Cell) (d : Due) (n : ℕ) → length before ≤ n → AreGiven ys before now
    → slice_get now d.cell ≡ Some waiting → d.cell < n
next_inside all ys before now d n fits given waits =
    let low = slice_get_within now d.cell waiting waits in
    let long = given.long in
    omega arith

-- where there are no dues each cell is as it was
pub given_none : {ds : List Due} {xs : List Cell} → ds ≡ [] → AreGiven ds xs xs
given_none {ds} {xs} none = rw none (record {
  long = refl;
  ended = λ j d x due got. absurd (let bad : ◌≡◌ {A = Option Due} None (Some d) = due in cc);
  others = λ c rest. refl;
})

given_there : (ys : List Due) (before now : List Cell) (d e : Due) (x y : Cell) (j : ℕ) → AreGiven ys before now
    → ((f : Due) (i : ℕ) → slice_get ys i ≡ Some f → f.cell ≡ d.cell → ⊥)
    → ShowsEnd (Some d.ending) x.mark x.shows → slice_get (set now d.cell x) e.cell ≡ Some y
    → ((j < length ys) × (slice_get ys j ≡ Some e)) ⊎ ((j ≡ length ys) × (e ≡ d)) → ShowsEnd (Some e.ending) y.mark y.shows
given_there ys before now d e x y j given none shows got (inl old) =
    given.ended j e y old.1 (sym (get-set_other now d.cell e.cell x (none e j old.1)) ∙ got)
given_there ys before now d e x y j given none shows got (inr new) =
    let at : slice_get (set now d.cell x) d.cell ≡ Some y = ap (λ (f : Due). slice_get (set now d.cell x) f.cell) (sym new.1) ∙ got in
    let same : y ≡ x = get-set_same now d.cell x y at in
    let P : Cell → Type 0 = λ z. ShowsEnd (Some d.ending) z.mark z.shows in
    let Q : Due → Type 0 = λ f. ShowsEnd (Some f.ending) y.mark y.shows in
    subst Q (sym new.1) (subst P (sym same) shows)

-- one more was given, whether its cell took it or refused it
pub given_more : (all ys : List Due) (before now then : List Cell) (d : Due) (took : Bool) → CanEnd (map (λ x. x.cell) all) before → ys ≡ take (length ys) all
    → length ys < length all → d ≡ get_or all (length ys) d → AreGiven ys before now
    → MatchBool took (then ≡ set now d.cell (showing d.ending)) (Refuses now then d.cell d.ending) → AreGiven (ys ++ d ∷ []) before then
given_more all ys before now then d took can front low is given ends =
    let got = gets_end took now then d.cell d.ending ends in
    let x : Cell = got.0 in
    let shows : ShowsEnd (Some d.ending) x.mark x.shows = got.2 in
    let grown : AreGiven (ys ++ d ∷ []) before (set now d.cell x) = record {
      long = length-set now d.cell x ∙ given.long;
      ended = λ j e y at shown. given_there ys before now d e x y j given (λ f i there same. apart all before ys d f i can front low is there same) shows shown
          (get-snoc ys d e j at);
      others = λ c none. get-set_other now d.cell c x (λ same. none (length ys) d (get-append_at ys d []) (sym same)) ∙ given.others c
          (λ j e at same. none j e (get_longer ys (d ∷ []) j e at) same);
    } in
    subst (AreGiven (ys ++ d ∷ []) before) (sym got.1) grown

-- ---- how many refused

abbrev one : Bool → ℕ
one b = cond b 1 0

refusals-cons : (x : Cell) (xs : List Cell) → refusals (x ∷ xs) ≡ one (is_refused x.mark) + refusals xs
refusals-cons x xs = sum_by-cons (λ (y : Cell). one (is_refused y.mark)) x xs

refusals-set : (xs : List Cell) (i : ℕ) (x y : Cell) → slice_get xs i ≡ Some x
    → refusals (set xs i y) + one (is_refused x.mark) ≡ refusals xs + one (is_refused y.mark)
refusals-set [] i x y got = absurd (let bad : ◌≡◌ {A = Option Cell} None (Some x) = got in cc)
refusals-set (z ∷ xs) zero x y got =
    let two : ◌≡◌ {A = Option Cell} (Some z) (Some x) = got in
    let same : z ≡ x = cc in
    let old = refusals-cons z xs in
    let new = refusals-cons y xs in
    rw (← same) (omega arith)
refusals-set (z ∷ xs) (suc i) x y got =
    let rest = refusals-set xs i x y got in
    let old = refusals-cons z xs in
    let new = refusals-cons z (set xs i y) in
    omega arith

-- a cell that took what it was given counts as before, and one that did not counts one more
pub taken_count : (now then : List Cell) (c : ℕ) (end : Ending) → slice_get now c ≡ Some waiting → then ≡ set now c (showing end) → refusals then ≡ refusals now
taken_count now then c end waits is = let step = refusals-set now c waiting (showing end) waits in rw is (omega arith)

pub refused_count : (now then : List Cell) (c : ℕ) (end : Ending) → slice_get now c ≡ Some waiting → Refuses now then c end → refusals then ≡ refusals now + 1
refused_count now then c end waits is = let step = refusals-set now c waiting (refused end is.0) waits in rw is.1 (omega arith)

-- the counts after one more was given
pub refused_next : (was now then n : ℕ) → now ≡ was + n → then ≡ now + 1 → then ≡ was + (n + 1)
refused_next was now then n before step = omega arith

pub few_next : (n m k : ℕ) → n ≤ m → k ≡ m + 1 → n + 1 ≤ k
few_next n m k few longer = omega arith

pub few_still : (n m k : ℕ) → n ≤ m → k ≡ m + 1 → n ≤ k
few_still n m k few longer = omega arith

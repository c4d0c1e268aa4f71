-- The accounts of a loader that is closed: each agrees with the history.
use Rattle.std.proofs.Common.{◌≡◌, ◌∙◌, sym, ap, ℕ, ◌+◌, ◌-◌, ◌<◌, ◌≤◌, max, Bool, true, false, cond, List, [], ◌∷◌, ◌++◌, length, filter, flat_map, Option}
use Rattle.std.proofs.Common.{Some, None, IfSome, IsSome, slice_get, sum_by, refl, arith}
use Rattle.std.proofs.lemmas.List.Elements.{filter-append}
use Rattle.dl_desk.specs.History.{cells}
use Rattle.dl_desk.specs.Events.{atoms}
use Rattle.dl_desk.specs.declared.event.Event.{Event}
use Rattle.dl_desk.specs.declared.event.Ending.{Ending}
use Rattle.dl_history.specs.declared.cell_state.Mark.{Mark}
use Rattle.dl_history.specs.declared.cell_state.Mark.TheVariants.{Waiting, Ended, Refused}
use Rattle.dl_history.specs.Agreement.{Account, accounts_by, HasEach, HasCalls, places_of, Tells, Agrees, Meets, Fits}
use Rattle.dl_history.specs.LoaderState.{LoaderState, IsLoaderState, ShowsEnd}
use Rattle.dl_history.specs.Agreement.{NoneBehind, read_in, reads_of, unshown}
use Rattle.dl_history.specs.Journal.{cell_refused}
use Rattle.dl_history.specs.History.{AllEnded}
use Rattle.dl_history.specs.Entries.{PlacedEvent, Read, Entry, Called, Saw, calls_of, IsOwn, front_of, Ordered, answered, cells_in, Answered}
use Rattle.dl_history.specs.History.{past, IsLegal, ending_of}
use Rattle.dl_history.specs.Journal.{Cell, is_refused}
use Rattle.dl_history.specs.Lists.{Every, places}
use Rattle.dl_desk.specs.Service.{Service, AnswersEach}
use Rattle.dl_history.proofs.AllCellsEnd.{shows_end}
use Rattle.dl_history.proofs.PlaceCounts.{Rises, StandsAt, Stand, AreOwn, each_is_its_part}
use Rattle.dl_history.proofs.ListLemmas.{get-inside, every_among, every_append, every_from}
use Rattle.dl_history.proofs.Pasts.{legal_place}
use Rattle.dl_history.proofs.CellsOfCalls.{AllBelow, answered_low}

-- ---- one entry

-- a call within the history tells its event
call_tells : (es : List Event) (t : PlacedEvent) → t.at < length es → IfSome (slice_get es t.at) (λ e. e ≡ t.event) → slice_get es t.at ≡ Some t.event
call_tells es t low meets = by (slice_get es t.at) refl meets
  where
    by : (o : Option Event) → slice_get es t.at ≡ o → IfSome o (λ e. e ≡ t.event) → o ≡ Some t.event
    by None none f = absurd (get-inside es t.at low none)
    by (Some e) some f = ap (λ (x : Event). Some x) f

-- a cell that has an end and did not refuse it shows it
read_is : (end : Option Ending) (mark : Mark) (shows : Option Ending) (read : Ending) → ShowsEnd end mark shows → IsSome end → is_refused mark ≡ false
    → IfSome shows (λ e. e ≡ read) → end ≡ Some read
read_is None mark shows read stands some refused meets = absurd (let bad : false ≡ true = some in cc)
read_is (Some x) Waiting shows read stands some refused meets = absurd (let bad : ◌≡◌ {A = Option Ending} (Some x) None = stands.0 in cc)
read_is (Some x) Ended shows read stands some refused meets =
    let same : shows ≡ Some x = stands.1 in
    let found : x ≡ read = rw same at meets in
    ap (λ (y : Ending). Some y) found
read_is (Some x) (Refused kept) shows read stands some refused meets = absurd (let bad : true ≡ false = refused in cc)

read_tells : (s : Service) (b : LoaderState) (r : Read) → IsLoaderState s b → AnswersEach s.answer → AllEnded b.history → r.cell < cells (atoms (past b.history))
    → cell_refused (slice_get b.cells r.cell) ≡ false
    → IfSome (slice_get b.cells r.cell) (λ x. IfSome x.shows (λ e. e ≡ r.ending)) → ending_of b.history r.cell ≡ Some r.ending
read_tells s b r kept each all low shown meets = by (slice_get b.cells r.cell) refl shown meets
  where
    many : length b.cells ≡ cells (atoms (past b.history))
    many = kept.all_cells ∙ kept.desk.cells

    by : (o : Option Cell) → slice_get b.cells r.cell ≡ o → cell_refused o ≡ false → IfSome o (λ x. IfSome x.shows (λ e. e ≡ r.ending))
        → ending_of b.history r.cell ≡ Some r.ending
    by None none f g = absurd (get-inside b.cells r.cell (let m = many in omega arith) none)
    by (Some x) some f g =
        read_is (ending_of b.history r.cell) x.mark x.shows r.ending (kept.ends r.cell x some) (shows_end s b.history r.cell each kept.legal all low) f g

-- ---- the entries of an account

none_left : {X : Type 0} (xs ys : List X) → xs ++ ys ≡ [] → (xs ≡ []) × (ys ≡ [])
none_left [] ys none = (refl, none)
none_left {X} (x ∷ xs) ys none = absurd (let bad : ◌≡◌ {A = List X} (x ∷ (xs ++ ys)) [] = none in cc)

-- none of these is of a cell that refused
abbrev NoneRefused : List Cell → List ℕ → Type 0
NoneRefused states cs = filter (λ c. cell_refused (slice_get states c)) cs ≡ []

none_refused_parts : (states : List Cell) (cs ds : List ℕ) → NoneRefused states (cs ++ ds) → NoneRefused states cs × NoneRefused states ds
none_refused_parts states cs ds none =
    let p : ℕ → Bool = λ c. cell_refused (slice_get states c) in
    none_left (filter p cs) (filter p ds) (sym (filter-append p cs ds) ∙ none)

one_shown : (states : List Cell) (c : ℕ) → NoneRefused states (c ∷ []) → cell_refused (slice_get states c) ≡ false
one_shown states c none = by (cell_refused (slice_get states c)) refl none
  where
    by : (t : Bool) → cell_refused (slice_get states c) ≡ t → cond t (c ∷ []) [] ≡ [] → t ≡ false
    by true is f = absurd (let bad : ◌≡◌ {A = List ℕ} (c ∷ []) [] = f in cc)
    by false is f = refl

-- each entry tells what the history has
entries_tell : (s : Service) (b : LoaderState) (cs : List ℕ) (entries : List Entry) → IsLoaderState s b → AnswersEach s.answer → AllEnded b.history
    → AllBelow (cells (atoms (past b.history))) cs
    → front_of entries ≤ length b.history → NoneRefused b.cells (flat_map read_in entries) → Answered cs entries → Every (Meets b.history b.cells) entries
    → Every (Tells b.history) entries
entries_tell s b cs [] kept each all low front shown answered meets = tt
entries_tell s b cs (Called t ∷ entries) kept each all low front shown answered meets =
    let tells = call_tells b.history t (omega arith) meets.0 in
    let begun = answered_low s b.history t.at t.event kept.legal tells in
    let more = every_append (λ c. c < cells (atoms (past b.history))) cs (answered_by t) low begun in
    (tells, entries_tell s b (cs ++ answered_by t) entries kept each all more (omega arith) shown answered.1 meets.1)
  where
    answered_by : PlacedEvent → List ℕ
    answered_by u = cells_in (Called u)
entries_tell s b cs (Saw r ∷ entries) kept each all low front shown answered meets =
    let parts = none_refused_parts b.cells (r.cell ∷ []) (flat_map read_in entries) shown in
    let own = every_among (λ c. c < cells (atoms (past b.history))) cs r.cell answered.0 low in
    let more = every_append (λ c. c < cells (atoms (past b.history))) cs [] low tt in (
      read_tells s b r kept each all own (one_shown b.cells r.cell parts.0) meets.0,
      entries_tell s b (cs ++ []) entries kept each all more (omega arith) parts.1
          answered.1 meets.1,
    )

-- ---- the places of an account's calls

rises_from : (j k : ℕ) (ps : List ℕ) → j ≤ k → Rises k ps → Rises j ps
rises_from j k [] low rises = tt
rises_from j k (p ∷ ps) low rises = (let above = rises.0 in omega arith, rises.1)

places_rise : (k : ℕ) (entries : List Entry) → Ordered k entries → Rises k (places_of entries)
places_rise k [] ordered = tt
places_rise k (Called t ∷ entries) ordered =
    (ordered.0, rises_from (t.at + 1) (max k (t.at + 1)) (places_of entries) (omega arith) (places_rise (max k (t.at + 1)) entries ordered.1))
places_rise k (Saw r ∷ entries) ordered = rises_from k (max k (r.ending.at + 1)) (places_of entries) (omega arith) (places_rise (max k (r.ending.at + 1)) entries ordered.1)

stands_there : (es : List Event) (n : ℕ) (t : PlacedEvent) → slice_get es t.at ≡ Some t.event → t.event.caller ≡ n → StandsAt (λ (e : Event). e.caller) n es (t.at - 0)
stands_there es n t tells own = let same : t.at - 0 ≡ t.at = omega arith in record { element = t.event; there = rw same tells; own = own }

places_stand : (es : List Event) (n : ℕ) (entries : List Entry) → Every (λ t. slice_get es t.at ≡ Some t.event) (calls_of entries)
    → Every (IsOwn n) (calls_of entries) → Stand (λ (e : Event). e.caller) n 0 es (places_of entries)
places_stand es n [] tell own = tt
places_stand es n (Called t ∷ entries) tell own = (stands_there es n t tell.0 own.0, places_stand es n entries tell.1 own.1)
places_stand es n (Saw r ∷ entries) tell own = places_stand es n entries tell own

-- ---- the calls of an account

calls_tell : (es : List Event) (states : List Cell) (entries : List Entry) → front_of entries ≤ length es → Every (Meets es states) entries
    → Every (λ t. slice_get es t.at ≡ Some t.event) (calls_of entries)
calls_tell es states [] front meets = tt
calls_tell es states (Called t ∷ entries) front meets = (call_tells es t (omega arith) meets.0, calls_tell es states entries (omega arith) meets.1)
calls_tell es states (Saw r ∷ entries) front meets = calls_tell es states entries (omega arith) meets.1

-- ---- the calls of all accounts

all_own : (callers : ℕ) (es : List Event) (states : List Cell) (accounts : List Account) → Every (λ a. front_of a.entries ≤ length es) accounts
    → Every (Fits callers es states) accounts → Every (λ a. AreOwn (λ (e : Event). e.caller) es a.caller (places_of a.entries)) accounts
all_own callers es states [] fronts fits = tt
all_own callers es states (a ∷ accounts) fronts fits =
    let is_account = fits.0.is_account in
    let tell = calls_tell es states a.entries fronts.0 fits.0.meets in (
      record { rises = places_rise 0 a.entries is_account.ordered; stand = places_stand es a.caller a.entries tell is_account.own },
      all_own callers es states accounts fronts.1 fits.1,
    )

all_have : (callers : ℕ) (es : List Event) (states : List Cell) (accounts : List Account) → Every (λ a. front_of a.entries ≤ length es) accounts
    → Every (Fits callers es states) accounts → Every (λ a. places_of a.entries ≡ places (λ (e : Event). e.caller) a.caller 0 es) accounts
    → Every (HasCalls es) accounts
all_have callers es states [] fronts fits places = tt
all_have callers es states (a ∷ accounts) fronts fits places = (
  record { places_are = places.0; tell = calls_tell es states a.entries fronts.0 fits.0.meets },
  all_have callers es states accounts fronts.1 fits.1 places.1,
)

-- each event's caller has one account
all_once : (s : Service) (es : List Event) (accounts : List Account) → IsLegal s es → HasEach s.callers accounts
    → Every (λ (e : Event). accounts_by e.caller accounts ≡ 1) es
all_once s es accounts legal each =
    every_from (λ (e : Event). accounts_by e.caller accounts ≡ 1) es (λ k e got. let next = legal_place s es k e legal got in each e.caller next.caller)

fronts_of : (len : ℕ) (accounts : List Account) → NoneBehind len accounts → Every (λ a. front_of a.entries ≤ len) accounts
fronts_of len accounts seen = every_from (λ (a : Account). front_of a.entries ≤ len) accounts (λ k a got. seen a (k, got))

-- Where the accounts of all callers fit, none has seen more than there is, and the calls are as many as the events, each
-- account has its caller's calls.
pub accounts_have : (s : Service) (es : List Event) (states : List Cell) (accounts : List Account) → IsLegal s es → HasEach s.callers accounts
    → NoneBehind (length es) accounts → Every (Fits s.callers es states) accounts → sum_by (λ a. length (places_of a.entries)) accounts ≡ length es
    → Every (HasCalls es) accounts
accounts_have s es states accounts legal each seen fits count =
    let fronts = fronts_of (length es) accounts seen in
    let places = each_is_its_part (λ (e : Event). e.caller) es (λ (a : Account). a.caller) (λ (a : Account). places_of a.entries) accounts
    (all_own s.callers es states accounts fronts fits) (all_once s es accounts legal each) count in
    all_have s.callers es states accounts fronts fits places

-- ---- all accounts

all_agree : (s : Service) (b : LoaderState) (accounts : List Account) → IsLoaderState s b → AnswersEach s.answer → AllEnded b.history
    → Every (λ a. front_of a.entries ≤ length b.history) accounts → NoneRefused b.cells (reads_of accounts)
    → Every (Fits s.callers b.history b.cells) accounts → Every (HasCalls b.history) accounts → Every (Agrees b.history) accounts
all_agree s b [] kept each all front shown fits calls = tt
all_agree s b (a ∷ accounts) kept each all front shown fits calls =
    let parts = none_refused_parts b.cells (flat_map read_in a.entries) (reads_of accounts) shown in
    let is_account = fits.0.is_account in (
      record {
        places_are = calls.0.places_are;
        tells = entries_tell s b [] a.entries kept each all tt front.0 parts.0 is_account.answered_are fits.0.meets;
        answered_are = is_account.answered_are;
        ordered = is_account.ordered;
      },
      all_agree s b accounts kept each all front.1 parts.1 fits.1 calls.1,
    )

-- Where accounts fit and have their calls, none has an outcome of a cell that refused it, and each batch has ended, each
-- account agrees with the history.
pub accounts_agree : (s : Service) (b : LoaderState) (accounts : List Account) → IsLoaderState s b → AnswersEach s.answer → NoneBehind (length b.history) accounts
    → unshown b.cells accounts ≡ [] → AllEnded b.history → Every (Fits s.callers b.history b.cells) accounts → Every (HasCalls b.history) accounts
    → Every (Agrees b.history) accounts
accounts_agree s b accounts kept answers seen shown all fits calls =
    all_agree s b accounts kept answers all (fronts_of (length b.history) accounts seen) shown fits calls

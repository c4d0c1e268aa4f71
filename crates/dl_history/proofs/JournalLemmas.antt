-- What holds of a journal once it has one event more, or a cell has its end.
use Rattle.std.proofs.Common.{◌≡◌, ◌∙◌, sym, ap, ℕ, zero, suc, ◌+◌, ◌<◌, ◌⊎◌, Bool, true, false, List, [], ◌∷◌, ◌++◌, length, set, take, Some, MatchBool, slice_get, nat_lt}
use Rattle.std.proofs.Common.{Option, None, IfSome, IfNone, option_map, refl, arith}
use Rattle.std.proofs.Common.{inl, inr, length-append}
use Rattle.std.proofs.lemmas.List.{map-set}
use Rattle.std.proofs.lemmas.Bool.{ltb-false}
use Rattle.std.proofs.lemmas.Option.{slice_get-map, slice_get_past}
use Rattle.dl_cells.specs.Cells.{RowName, Reader, Agrees}
use Rattle.dl_desk.specs.declared.event.Ending.{Ending}
use Rattle.dl_history.specs.declared.cell_state.Mark.TheVariants.{Ended, Refused}
use Rattle.dl_history.specs.declared.cell_state.CellState.{CellState}
use Rattle.dl_desk.specs.declared.event.Event.{Event}
use Rattle.dl_history.specs.Journal.{Cell, showing, refused, Refuses, AreKnown, IsKnown, JournalFields, IsJournal, cell_by, cells_by, events_known}
use Rattle.dl_history.specs.Entries.{event_known}
use Rattle.dl_history.proofs.ListLemmas.{get-snoc}

-- readers of a log that know its events, with one more
known_more : (log : RowName) (readers : List (Reader Event)) (r : Reader Event) → AreKnown log readers → IsKnown log (length readers) r → (k : ℕ)
    (u : Reader Event) → ((k < length readers) × (slice_get readers k ≡ Some u)) ⊎ ((k ≡ length readers) × (u ≡ r)) → IsKnown log k u
known_more log readers r known new k u (inl there) = known.at k u there.1
known_more log readers r known new k u (inr last) = rw (last.0, last.1) new

-- ---- what readers of a log know

-- the event that a reader knows stands at its place
event_at : (readers : List (Reader Event)) (k : ℕ) (r : Reader Event) → slice_get readers k ≡ Some r
    → slice_get (events_known readers) k ≡ Some (event_known r.known)
event_at readers k r there = rw (slice_get-map (λ (x : Reader Event). event_known x.known) readers k, there) refl

-- where no reader is, there is no event
event_past : (readers : List (Reader Event)) (k : ℕ) → false ≡ nat_lt k (length readers) → slice_get (events_known readers) k ≡ None
event_past readers k outside =
    let none : slice_get readers k ≡ None = slice_get_past readers k (ltb-false k (length readers) (sym outside)) in
    rw (slice_get-map (λ (x : Reader Event). event_known x.known) readers k, none) refl

-- what a reader that knows something knows, its event is
known_is : (r : Option Event) (e : Event) → r ≡ Some (event_known r) → IfSome r (λ x. x ≡ e) → event_known r ≡ e
known_is None e knows same = absurd (let bad : ◌≡◌ {A = Option Event} None (Some (event_known None)) = knows in cc)
known_is (Some x) e knows same = same

-- so where a reader agrees with an event, the event stands at its place
pub event_met : (log : RowName) (readers got : List (Reader Event)) (k at : ℕ) (r : Reader Event) (e : Event) → AreKnown log readers → got ≡ readers
    → k ≡ at → slice_get got k ≡ Some r → IfSome r.known (λ x. x ≡ e) → IfSome (slice_get (events_known readers) at) (λ x. x ≡ e)
event_met log readers got k at r e known same place there agrees =
    let own : slice_get readers at ≡ Some r = rw (← same, ← place) there in
    let is = known.at at r own in
    rw (event_at readers at r own) (known_is r.known e is.knows agrees)

-- and where no reader is, nothing disagrees
pub event_unmet : (readers got : List (Reader Event)) (k at : ℕ) (e : Event) → got ≡ readers → k ≡ at → false ≡ nat_lt k (length got)
    → IfSome (slice_get (events_known readers) at) (λ x. x ≡ e)
event_unmet readers got k at e same place outside =
    let past : false ≡ nat_lt at (length readers) = rw (← same, ← place) outside in
    rw (event_past readers at past) tt

-- the event that a look answers for a place stands there
pub event_seen : {A : Type 0} (now : A → Event) (log : RowName) (readers : List (Reader Event)) (k : ℕ) (r : Reader Event) (seen : Option A)
    (after : Option Event)
    → AreKnown log readers → slice_get readers k ≡ Some r → IfSome seen (λ x. (after ≡ Some (now x)) × Agrees r.known (now x))
    → IfNone seen ((r.known ≡ None) × (after ≡ None)) → option_map now seen ≡ slice_get (events_known readers) k
event_seen now log readers k r None after known there shown empty =
    let is = known.at k r there in
    absurd (let bad : ◌≡◌ {A = Option Event} None (Some (event_known r.known)) = sym empty.0 ∙ is.knows in cc)
event_seen now log readers k r (Some x) after known there shown empty =
    let is = known.at k r there in
    let same : IfSome r.known (λ y. y ≡ now x) = shown.1 in
    rw (event_at readers k r there, known_is r.known (now x) is.knows same) refl

-- ---- one event more

-- a journal with one event more
pub journal_event : {log outcomes : RowName} {fields : JournalFields} (counted : ℕ) (readers : List (Reader Event)) (r : Reader Event)
    → IsJournal log outcomes fields → readers ≡ fields.readers ++ r ∷ [] → counted ≡ fields.counted + 1 → IsKnown log (length fields.readers) r
    → IsJournal log outcomes (record fields { counted = counted; readers = readers })
journal_event {log} {outcomes} {fields} counted readers r old grown count new = record {
  counted_is =
      let was = old.counted_is in
      let now : length readers ≡ length fields.readers + 1 = ap length grown ∙ length-append fields.readers (r ∷ []) in
      omega arith;
  known = record { at = λ k u got. known_more log fields.readers r old.known new k u (get-snoc fields.readers r u k (rw grown at got)) };
  own = old.own;
}

-- ---- cells

-- what stands in the front of a list stands there in all of it
got_taken : {X : Type 0} (n : ℕ) (xs : List X) (i : ℕ) (x : X) → slice_get (take n xs) i ≡ Some x → slice_get xs i ≡ Some x
got_taken {X} zero xs i x got = absurd (let bad : ◌≡◌ {A = Option X} None (Some x) = got in cc)
got_taken (suc n) [] i x got = got
got_taken (suc n) (y ∷ xs) zero x got = got
got_taken (suc n) (y ∷ xs) (suc i) x got = got_taken n xs i x got

-- a journal whose cells are taken back from one on
pub journal_cut : {log outcomes : RowName} {fields : JournalFields} (states : List CellState) (n : ℕ) → IsJournal log outcomes fields
    → states ≡ take n fields.states → IsJournal log outcomes (record fields { states = states })
journal_cut {log} {outcomes} {fields} states n old cut = record {
  counted_is = old.counted_is;
  known = old.known;
  own = record { at = λ c s got. old.own.at c s (got_taken n fields.states c s (rw cut at got)) };
}

-- the cells, once a state has its end
pub cells_ended : (states : List CellState) (c : ℕ) (s : CellState) (e : Ending) (took : Bool)
    → MatchBool took ((s.mark ≡ Ended) × (s.reader.known ≡ Some e)) (s.mark ≡ Refused e)
    → MatchBool took (cells_by (set states c s) ≡ set (cells_by states) c (showing e)) (Refuses (cells_by states) (cells_by (set states c s)) c e)
cells_ended states c s e true is =
    let cell : cell_by s ≡ showing e = rw (is.0, is.1) refl in
    map-set cell_by states c s ∙ ap (λ (x : Cell). set (cells_by states) c x) cell
cells_ended states c s e false is =
    let cell : cell_by s ≡ refused e s.reader.known = rw is refl in
    (s.reader.known, map-set cell_by states c s ∙ ap (λ (x : Cell). set (cells_by states) c x) cell)

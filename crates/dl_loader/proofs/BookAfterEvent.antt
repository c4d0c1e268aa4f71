-- What a book keeps once an event is recorded, whatever its call.
use Rattle.std.proofs.Common.{◌≡◌, ◌∙◌, sym, ap, subst, ℕ, zero, suc, ◌+◌, ◌-◌, ◌<◌, ◌≤◌, ◌⊎◌, inl, inr, List, [], ◌∷◌, ◌++◌, length, map, Option}
use Rattle.std.proofs.Common.{Some, None, slice_get, option_map, refl, arith, length-append, cond}
use Rattle.std.specs.List.{repeat}
use Rattle.std.specs.Option.{option_or}
use Rattle.std.proofs.lemmas.Bool.{cases_eq}
use Rattle.std.proofs.lemmas.List.{length-map}
use Rattle.dl_values.specs.Limits.{Rules}
use Rattle.dl_desk.specs.History.{cells}
use Rattle.dl_desk.specs.Events.{atoms}
use Rattle.dl_desk.specs.Calls.{after}
use Rattle.dl_desk.specs.BatchBook.{BatchBook, StandsFor}
use Rattle.dl_desk.specs.declared.fault.DeskFault.{DeskFault}
use Rattle.dl_desk.specs.declared.event.Event.{Event}
use Rattle.dl_desk.specs.declared.event.Call.{Call}
use Rattle.dl_desk.specs.Service.{Service}
use Rattle.dl_desk.specs.Legal.{call_of, reply_to}
use Rattle.dl_history.specs.History.{past, ending_of}
use Rattle.dl_history.specs.Journal.{Cell, waiting, is_refused, refusals}
use Rattle.dl_history.specs.LoaderState.{LoaderState, loader_state, IsLoaderState, ShowsEnd}
use Rattle.dl_history.proofs.Endings.{none_unbegun}
use Rattle.dl_history.proofs.CellLists.{waiting_shows, shows_same}
use Rattle.dl_history.proofs.ListLemmas.{get-append_cases, get-repeat, length-repeat_one}
use Rattle.dl_loader.specs.declared.dues.Due.{Due}
use Rattle.dl_history.specs.declared.fault.CallFault.{CallFault}
use Rattle.dl_loader.specs.Inside.NewCells.{begun_in}
use Rattle.dl_loader.specs.Inside.Dues.{AreDue, AreGiven, CanEnd}
use Rattle.dl_loader.specs.Book.{Book, Keeps, state_of}
use Rattle.dl_loader.specs.Inside.Preparation.{AskedCall, PreparedEvent, IsPrepared, Steps}
use Rattle.dl_history.specs.Pass.{Trace}
use Rattle.dl_loader.specs.Refusals.{cause, unready}
use Rattle.dl_history.specs.Faults.{call_fault}
use Rattle.dl_loader.proofs.DueLemmas.{get_mapped, unmapped}
use Rattle.std.proofs.lemmas.List.Sums.{sum_by-append, sum_by-cons}
use Rattle.dl_loader.proofs.NextEvent.{Gained, MayStand, begun_cells, event, keeps_more, may_call, may_stand}
use Rattle.dl_loader.proofs.NewCells.{begun_by_reply, reply_fits}
use Rattle.dl_loader.proofs.CellEnds.{ended_in, ending, gives_ends, cells_can, cells_few}
use Rattle.dl_desk.specs.Calls as desk

-- ---- what a cell shows

-- a cell that has a due, or has none
abbrev HasDue : List Due → ℕ → Type 0
HasDue dues c = (j : ℕ) × (d : Due) × (slice_get dues j ≡ Some d) × (d.cell ≡ c)

abbrev NoDue : List Due → ℕ → Type 0
NoDue dues c = (j : ℕ) (d : Due) → slice_get dues j ≡ Some d → d.cell ≡ c → ⊥

due_or_none : (dues : List Due) (c : ℕ) → HasDue dues c ⊎ NoDue dues c
due_or_none [] c = inr (λ j d got. absurd (let bad : ◌≡◌ {A = Option Due} None (Some d) = got in cc))
due_or_none (x ∷ dues) c = by (cases_eq x.cell c) (due_or_none dues c)
  where
    by : (x.cell ≡ c) ⊎ (x.cell ≡ c → ⊥) → HasDue dues c ⊎ NoDue dues c → HasDue (x ∷ dues) c ⊎ NoDue (x ∷ dues) c
    by (inl is) rest = inl (0, x, refl, is)
    by (inr other) (inl h) = inl (suc h.0, h.1, h.2, h.3)
    by (inr other) (inr none) = inr not
      where
        not : NoDue (x ∷ dues) c
        not zero d got is = let two : ◌≡◌ {A = Option Due} (Some x) (Some d) = got in let same : x ≡ d = cc in other (ap (λ (y : Due). y.cell) same ∙ is)
        not (suc j) d got is = none j d got is

-- a cell shows the end that it has after the event
shows : {s : Service} {seen : LoaderState} {e : Event} {dues : List Due} {mids ys : List Cell} (c : ℕ) (x : Cell) → MayStand s seen e
    → AreDue e.call (length seen.history) (ended_in seen e) dues → mids ≡ seen.cells ++ repeat (begun_in e.reply) (waiting ∷ []) → AreGiven dues mids ys
    → slice_get ys c ≡ Some x → ShowsEnd (ending_of (seen.history ++ e ∷ []) c) x.mark x.shows
shows {s} {seen} {e} {dues} {mids} {ys} c x g due more given got = by (due_or_none dues c)
  where
    at_last : NoDue dues c → ((c < length seen.cells) × (slice_get seen.cells c ≡ Some x))
        ⊎ ((length seen.cells ≤ c) × (slice_get (repeat (begun_in e.reply) (waiting ∷ [])) (c - length seen.cells) ≡ Some x))
        → ShowsEnd (ending_of (seen.history ++ e ∷ []) c) x.mark x.shows
    at_last none was =
        let stays : ending_of (seen.history ++ e ∷ []) c ≡ ending_of seen.history c = (gives_ends g).others c
        (λ j cell. let d = unmapped (λ (d : Due). d.cell) dues j c (ap (λ (cs : List ℕ). slice_get cs j) due.cells_are ∙ cell) in none j d.0 d.1 d.2) in
        or stays was
      where
        or : ending_of (seen.history ++ e ∷ []) c ≡ ending_of seen.history c → ((c < length seen.cells) × (slice_get seen.cells c ≡ Some x))
            ⊎ ((length seen.cells ≤ c) × (slice_get (repeat (begun_in e.reply) (waiting ∷ [])) (c - length seen.cells) ≡ Some x))
            → ShowsEnd (ending_of (seen.history ++ e ∷ []) c) x.mark x.shows
        or stays (inl old) = shows_same (ending_of seen.history c) (ending_of (seen.history ++ e ∷ []) c) x stays (g.kept.ends c x old.1)
        or stays (inr new) =
            let begun = begun_cells g.kept in
            let beyond = new.0 in
            let high : cells (atoms (past seen.history)) ≤ c = omega arith in
            waiting_shows (ending_of (seen.history ++ e ∷ []) c) x (stays ∙ none_unbegun s seen.history c g.kept.legal high)
            (get-repeat (begun_in e.reply) waiting x (c - length seen.cells) new.1)

    by : HasDue dues c ⊎ NoDue dues c → ShowsEnd (ending_of (seen.history ++ e ∷ []) c) x.mark x.shows
    by (inl h) =
        let d : Due = h.1 in
        let cell = ap (λ (cs : List ℕ). slice_get cs h.0) (sym due.cells_are) ∙ get_mapped (λ (y : Due). y.cell) dues h.0 d h.2 in
        let brings = due.ends_are h.0 d h.2 in
        let is : ending_of (seen.history ++ e ∷ []) d.cell ≡ Some d.ending = (gives_ends g).ends h.0 d.cell d.ending.outcome cell brings.0
        ∙ ap (λ (at : ℕ). Some (ending at d.ending.outcome)) (sym brings.1) in
        let here : ending_of (seen.history ++ e ∷ []) c ≡ Some d.ending = rw (← h.3) is in
        shows_same (Some d.ending) (ending_of (seen.history ++ e ∷ []) c) x here (given.ended h.0 d x h.2 (ap (slice_get ys) h.3 ∙ got))
    by (inr none) = at_last none (get-append_cases seen.cells (repeat (begun_in e.reply) (waiting ∷ [])) c x (rw more at (sym (given.others c none) ∙ got)))

-- A book still keeps what it keeps after an event, with a cell that waits for each that it began, once its dues are given.
pub event_kept : {s : Service} {seen : LoaderState} {e : Event} {dues : List Due} {now : List Event} {new : BatchBook} {mids ys : List Cell} → MayStand s seen e
    → desk.refusal s.rules (atoms (past seen.history)) (call_of e.call) ≡ None → AreDue e.call (length seen.history) (ended_in seen e) dues
    → Gained seen e (begun_in e.reply) now mids → AreGiven dues mids ys → Steps seen.desk new (call_of e.call) → IsLoaderState s (loader_state now new ys)
event_kept {s} {seen} {e} {dues} {now} {new} {mids} {ys} g none due gained given step =
    let H = atoms (past seen.history) in
    let stands : StandsFor new (after s.rules H (call_of e.call)) =
    subst (λ (r : Rules). StandsFor new (after r H (call_of e.call))) g.kept.rules (step.stands H g.kept.desk) in
    let by_reply = begun_by_reply s.rules H e.call seen.desk new g.kept.desk stands in
    let more = rw (← g.next.reply) at by_reply in
    let by_limit = reply_fits s.rules H e.call seen.desk g.kept.desk none g.kept.cells_fit in
    let fit = rw (← g.next.reply) at by_limit in
    let before = g.kept.all_cells in
    let waits : List Cell = repeat (begun_in e.reply) (waiting ∷ []) in
    let long : length mids ≡ length seen.cells + length waits = ap length gained.cells ∙ length-append seen.cells waits in
    let as_many : length waits ≡ begun_in e.reply = length-repeat_one (begun_in e.reply) waiting in
    let same = given.long in
    let all : IsLoaderState s (loader_state (seen.history ++ e ∷ []) new ys) =
    keeps_more g step (omega arith) (omega arith) (λ c x got. shows c x g due gained.cells given got) in
    subst (λ (es : List Event). IsLoaderState s (loader_state es new ys)) (sym gained.history) all

-- ---- a call that is prepared

-- An event that may stand next in a book, whose desk has accepted its call, and the dues of the cells that it ends.
pub record IsNextIn (s : Service) (seen : LoaderState) (e : Event) (dues : List Due) : Type 0 where
  pub stands : MayStand s seen e
  pub accepted : desk.refusal s.rules (atoms (past seen.history)) (call_of e.call) ≡ None
  pub due : AreDue e.call (length seen.history) (ended_in seen e) dues

uncaused : (x : Option DeskFault) (y : Option CallFault) → option_or (option_map call_fault x) y ≡ None → x ≡ None
uncaused None y none = refl
uncaused (Some fault) y none = absurd (let bad : ◌≡◌ {A = Option CallFault} (Some (call_fault fault)) None = none in cc)

-- so does the event of a call that is prepared, with a copy of it, where the pass may make one
pub next_in : {s : Service} {view b : Book} {asked : AskedCall} {made : PreparedEvent} {caller : ℕ} {copy : Call} (p : Trace) → view ≡ b
    → IsPrepared view.desk asked made → Keeps s view → unready s b p ≡ None → caller ≡ p.caller → p.caller < s.callers → copy ≡ asked.call
    → made.at ≡ length view.history → asked.brings s.answer → IsNextIn s (state_of view) (event caller copy made.reply) made.dues
next_in {s} {view} {b} {asked} {made} {caller} {copy} p is prepared keeps ready own below same place answers =
    let H = atoms (past view.history) in
    let may = may_call p is keeps ready own below in
    let none = subst (λ (r : Rules). cause r H asked.call asked.job ≡ None) keeps.rules (prepared.accepted H keeps.desk) in
    let replies = subst (λ (r : Rules). made.reply ≡ reply_to r H asked.call) keeps.rules (prepared.replies H keeps.desk) in
    rw same (record {
      stands = may_stand (event caller asked.call made.reply) may replies (prepared.may s.answer answers H keeps.desk);
      accepted = uncaused (desk.refusal s.rules H (call_of asked.call)) _ none;
      due = let gives = prepared.gives H keeps.desk in rw place at gives;
    })

-- there is room for the cells that it begins
pub next_fits : {s : Service} {seen : LoaderState} {e : Event} {dues : List Due} → IsNextIn s seen e dues
    → length seen.cells + begun_in e.reply ≤ s.rules.limits.max_cells
next_fits {s} {seen} {e} n =
    let H = atoms (past seen.history) in
    let k = n.stands.kept in
    let by_limit = reply_fits s.rules H e.call seen.desk k.desk n.accepted k.cells_fit in
    let fit = rw (← n.stands.next.reply) at by_limit in
    let all = k.all_cells in
    omega arith

pub next_begun : {s : Service} {seen : LoaderState} {e : Event} {dues : List Due} → IsNextIn s seen e dues → begun_in e.reply ≤ s.rules.limits.max_cells
next_begun n = let fit = next_fits n in omega arith

-- once they are begun
pub next_cells : {s : Service} {seen : LoaderState} {e : Event} {dues : List Due} {now : List Event} {mids : List Cell} → IsNextIn s seen e dues
    → Gained seen e (begun_in e.reply) now mids → length mids ≤ s.rules.limits.max_cells
next_cells {seen = seen} {e = e} {mids = mids} n gained =
    let fit = next_fits n in
    let waits : List Cell = repeat (begun_in e.reply) (waiting ∷ []) in
    let long : length mids ≡ length seen.cells + length waits = ap length gained.cells ∙ length-append seen.cells waits in
    let as_many : length waits ≡ begun_in e.reply = length-repeat_one (begun_in e.reply) waiting in
    omega arith

pub next_can : {s : Service} {seen : LoaderState} {e : Event} {dues : List Due} {now : List Event} {mids : List Cell} → IsNextIn s seen e dues
    → Gained seen e (begun_in e.reply) now mids → CanEnd (map (λ d. d.cell) dues) mids
next_can {mids = mids} n gained = subst (λ (cs : List ℕ). CanEnd cs mids) (sym n.due.cells_are) (cells_can n.stands gained.cells)

pub next_few : {s : Service} {seen : LoaderState} {e : Event} {dues : List Due} → IsNextIn s seen e dues → length dues ≤ s.rules.limits.max_cells
next_few {s} {seen} {e} {dues} n =
    let few = cells_few n.stands (next_begun n) in
    let long : length dues ≡ length (ended_in seen e) = sym (length-map dues (λ (d : Due). d.cell)) ∙ ap length n.due.cells_are in
    omega arith

pub next_kept : {s : Service} {seen : LoaderState} {e : Event} {dues : List Due} {now : List Event} {new : BatchBook} {mids ys : List Cell}
    → IsNextIn s seen e dues → Gained seen e (begun_in e.reply) now mids → AreGiven dues mids ys → Steps seen.desk new (call_of e.call) → IsLoaderState s (loader_state now new ys)
next_kept n gained given step = event_kept n.stands n.accepted n.due gained given step

-- ---- refusals

refusals_repeat : (n : ℕ) → refusals (repeat n (waiting ∷ [])) ≡ 0
refusals_repeat zero = refl
refusals_repeat (suc n) =
    let one : refusals (repeat (suc n) (waiting ∷ [])) ≡ 0 + refusals (repeat n (waiting ∷ [])) =
    sum_by-cons (λ (x : Cell). cond (is_refused x.mark) 1 0) waiting (repeat n (waiting ∷ [])) in
    let rest = refusals_repeat n in
    omega arith

-- cells more that wait have refused nothing
pub refusals_waiting : {ys : List Cell} (xs : List Cell) (n : ℕ) → ys ≡ xs ++ repeat n (waiting ∷ []) → refusals ys ≡ refusals xs
refusals_waiting {ys} xs n more =
    let both : refusals ys ≡ refusals xs + refusals (repeat n (waiting ∷ [])) =
    ap refusals more ∙ sum_by-append (λ (x : Cell). cond (is_refused x.mark) 1 0) xs (repeat n (waiting ∷ [])) in
    let none = refusals_repeat n in
    omega arith

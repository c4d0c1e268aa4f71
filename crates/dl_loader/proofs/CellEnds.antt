-- The cells that an event ends: they wait before it, are no more than there may be, and get their ends by it.
use Rattle.std.proofs.Common.{◌≡◌, sym, ap, ℕ, ◌<◌, List, length, Option, Some, None, slice_get, refl, ◌∙◌, subst, zero, suc, ◌+◌, ◌≤◌, Bool, true}
use Rattle.std.proofs.Common.{false, cond, [], ◌∷◌, ◌++◌, map, arith}
use Rattle.dl_values.specs.Key.{Key}
use Rattle.dl_desk.specs.History.{members, Atom, Begun, begins, cells, count_cell, is_number, add_member, MayEnd, prime_reply}
use Rattle.dl_desk.specs.Events.{atoms}
use Rattle.dl_desk.specs.Service.{Service}
use Rattle.dl_desk.specs.Calls.{primed}
use Rattle.dl_history.specs.History.{past, ending_of}
use Rattle.dl_history.specs.Journal.{Cell, waiting}
use Rattle.dl_history.specs.LoaderState.{LoaderState, IsLoaderState}
use Rattle.dl_history.proofs.ListLemmas.{get-inside, get-append_at}
use Rattle.dl_history.proofs.CellLists.{shows_same, open_waits}
use Rattle.std.proofs.lemmas.List.{length-map, length_push}
use Rattle.dl_values.specs.declared.outcome.Outcome.{Outcome}
use Rattle.dl_desk.specs.declared.event.Call.{Call}
use Rattle.dl_desk.specs.declared.event.Call.TheVariants.{Settle, Prime, Fail}
use Rattle.dl_desk.specs.declared.event.Event.{Event}
use Rattle.dl_desk.specs.declared.event.Ending.{Ending}
use Rattle.dl_loader.specs.Inside.Dues.{outcome_by, CanEnd}
use Rattle.dl_loader.specs.Inside.Preparation.{cells_ended, cell_primed}
use Rattle.dl_history.proofs.Endings.{member_open, member_begun, members_distinct, EndsNone, call_ends_none, kept_ends_none, others_stay, primed_cell, primed_end}
use Rattle.dl_history.proofs.Endings.{primed_others}
use Rattle.dl_loader.proofs.DueLemmas.{unmapped, get_mapped}
use Rattle.std.specs.List.{repeat}
use Rattle.dl_values.specs.declared.outcome.Outcome.TheVariants.{BatchFailed}
use Rattle.dl_values.specs.declared.outcome.BatchFault.{BatchFault}
use Rattle.dl_desk.specs.declared.reply.DeskPrime.{DeskPrime}
use Rattle.dl_history.proofs.ListLemmas.{get_longer}
use Rattle.dl_history.proofs.BatchEndings.{settled_end, failed_end, settled_others, failed_others}
use Rattle.dl_loader.specs.Inside.NewCells.{begun_in}
use Rattle.dl_loader.proofs.NextEvent.{MayStand, begun_cells}
use Rattle.dl_desk.specs.declared.reply.DeskPrime.TheVariants as prime

-- ---- the cell of a member that has no end yet

waits_at : {s : Service} {seen : LoaderState} (c : ℕ) → IsLoaderState s seen → c < length seen.cells → ending_of seen.history c ≡ None → (o : Option Cell)
    → slice_get seen.cells c ≡ o → o ≡ Some waiting
waits_at {s} {seen} c keeps low none None past = absurd (get-inside seen.cells c low past)
waits_at {s} {seen} c keeps low none (Some x) got =
    ap Some (open_waits x (shows_same (ending_of seen.history c) None x (sym none) (keeps.ends c x got)))

-- in a book, a cell that was begun and has no end waits
cell_waits : {s : Service} {seen : LoaderState} (c : ℕ) → IsLoaderState s seen → c < length seen.cells → ending_of seen.history c ≡ None
    → slice_get seen.cells c ≡ Some waiting
cell_waits {s} {seen} c keeps low none = waits_at c keeps low none (slice_get seen.cells c) refl

-- the cells of a batch's members, in order
abbrev member_cells : List Event → ℕ → List ℕ
member_cells es n = map (λ m. m.1) (members (atoms (past es)) n)

-- the cells of the members of a batch that may end can end
can_end : {s : Service} {seen : LoaderState} {n : ℕ} → IsLoaderState s seen → MayEnd (atoms (past seen.history)) n
    → CanEnd (member_cells seen.history n) seen.cells
can_end {s} {seen} {n} keeps may = record {
  waits = λ j c got.
      let m = unmapped (λ (m : Key × ℕ). m.1) (members (atoms (past seen.history)) n) j c got in
      let begun = begun_cells keeps in
      let low = member_begun s seen.history n j m.0 keeps.legal m.1 in
      let inside : m.0.1 < length seen.cells = omega arith in
      let waits = cell_waits m.0.1 keeps inside (member_open s seen.history n j m.0 keeps.legal may m.1) in
      subst (λ (d : ℕ). slice_get seen.cells d ≡ Some waiting) m.2 waits;
  distinct = λ i j c first second.
      let k = unmapped (λ (m : Key × ℕ). m.1) (members (atoms (past seen.history)) n) i c first in
      let m = unmapped (λ (m : Key × ℕ). m.1) (members (atoms (past seen.history)) n) j c second in
      members_distinct s seen.history n i j k.0 m.0 keeps.legal k.1 m.1 (k.2 ∙ sym m.2);
}

-- ---- what an event gives its cells

abbrev cell_of : Key × ℕ → ℕ
cell_of m = m.1

abbrev pub ending : ℕ → Outcome → Ending
ending at o = record { at = at; outcome = o }

abbrev pub ended_in : LoaderState → Event → List ℕ
ended_in seen e = cells_ended (atoms (past seen.history)) e.call

-- The event gives its cells the ends that its call brings them, and no other cell an end.
pub record GivesEnds (seen : LoaderState) (e : Event) : Type 0 where
  pub ends : (j c : ℕ) (o : Outcome) → slice_get (ended_in seen e) j ≡ Some c → outcome_by e.call j ≡ Some o
      → ending_of (seen.history ++ e ∷ []) c ≡ Some (record { at = length seen.history; outcome = o })
  pub others : (c : ℕ) → ((j : ℕ) → slice_get (ended_in seen e) j ≡ Some c → ⊥) → ending_of (seen.history ++ e ∷ []) c ≡ ending_of seen.history c

-- one that ends none
quiet : {s : Service} {seen : LoaderState} {e : Event} → MayStand s seen e → ended_in seen e ≡ [] → EndsNone e → GivesEnds seen e
quiet {s} {seen} {e} g empty none = record {
  ends = λ j c o got brings. absurd (let bad : ◌≡◌ {A = Option ℕ} None (Some c) = rw empty at got in cc);
  others = λ c rest. others_stay s seen.history e c g.kept.legal g.next none;
}

only_one : (j c d : ℕ) → slice_get (c ∷ []) j ≡ Some d → (j ≡ 0) × (d ≡ c)
only_one zero c d got = let two : ◌≡◌ {A = Option ℕ} (Some c) (Some d) = got in (refl, cc)
only_one (suc j) c d got = absurd (let bad : ◌≡◌ {A = Option ℕ} None (Some d) = got in cc)

primed_in : (seen : LoaderState) (e : Event) {k : Key} {o : Outcome} {r : DeskPrime} → e.call ≡ Prime k o → prime_reply (atoms (past seen.history)) k ≡ r
    → ended_in seen e ≡ cell_primed r
primed_in seen e is r = rw (is, r) refl

by_prime : {s : Service} {seen : LoaderState} {e : Event} {k : Key} {o : Outcome} (r : DeskPrime) → MayStand s seen e → e.call ≡ Prime k o
    → prime_reply (atoms (past seen.history)) k ≡ r → e.reply ≡ primed r → GivesEnds seen e
by_prime {s} {seen} {e} {k} {o} (prime.Primed c) g is r reply = record {
  ends = λ j d p got brings.
      let own = only_one j c d (rw (primed_in seen e is r) at got) in
      let two : ◌≡◌ {A = Option Outcome} (Some o) (Some p) = rw is at brings in
      let same : o ≡ p = cc in
      rw (own.1, ← same) (primed_end s seen.history e k o c g.kept.legal g.next is reply);
  others = λ d rest. primed_others s seen.history e k o c d g.kept.legal g.next is reply
      (λ same. rest 0 (rw (primed_in seen e is r, same) refl));
}
by_prime {s} {seen} {e} {k} {o} prime.Kept g is r reply = quiet g (primed_in seen e is r) (kept_ends_none e k o is reply)

by_settle : {s : Service} {seen : LoaderState} {e : Event} {b : ℕ} {os : List Outcome} → MayStand s seen e → e.call ≡ Settle b os → GivesEnds seen e
by_settle {s} {seen} {e} {b} {os} g is =
    let es = seen.history in
    let ms : List (Key × ℕ) = members (atoms (past es)) b in
    let cells : ended_in seen e ≡ map cell_of ms = rw is refl in
    record {
      ends = λ j c o got brings.
          let m = unmapped cell_of ms j c (rw cells at got) in
          let end = settled_end s es e b os j m.0 o g.kept.legal g.next is m.1 (rw is at brings) in
          rw (← m.2) end;
      others = λ c rest. settled_others s es e b os c g.kept.legal g.next is
          (λ i m got same. rest i (rw cells (get_mapped cell_of ms i m got ∙ ap Some same)));
    }

by_fail : {s : Service} {seen : LoaderState} {e : Event} {b : ℕ} {fault : BatchFault} → MayStand s seen e → e.call ≡ Fail b fault → GivesEnds seen e
by_fail {s} {seen} {e} {b} {fault} g is =
    let es = seen.history in
    let ms : List (Key × ℕ) = members (atoms (past es)) b in
    let cells : ended_in seen e ≡ map cell_of ms = rw is refl in
    record {
      ends = λ j c o got brings.
          let m = unmapped cell_of ms j c (rw cells at got) in
          let two : ◌≡◌ {A = Option Outcome} (Some (BatchFailed fault)) (Some o) = rw is at brings in
          let same : BatchFailed fault ≡ o = cc in
          rw (← m.2, ← same) (failed_end s es e b fault j m.0 g.kept.legal g.next is m.1);
      others = λ c rest. failed_others s es e b fault c g.kept.legal g.next is
          (λ i m got same. rest i (rw cells (get_mapped cell_of ms i m got ∙ ap Some same)));
    }

-- so does every event that may stand next
pub gives_ends : {s : Service} {seen : LoaderState} {e : Event} → MayStand s seen e → GivesEnds seen e
gives_ends {s} {seen} {e} g = by e.call refl
  where
    by : (call : Call) → e.call ≡ call → GivesEnds seen e
    by (Prime k o) is = by_prime (prime_reply (atoms (past seen.history)) k) g is refl (rw is at g.next.reply)
    by (Settle b os) is = by_settle g is
    by (Fail b fault) is = by_fail g is
    by call is = quiet g (rw is refl) (call_ends_none s seen.history e call g.next is (λ c. refl) (λ b. refl))

-- ---- the cells that an event ends, before it

can_by_members : {s : Service} {seen : LoaderState} {e : Event} {mids : List Cell} (b n : ℕ) → MayStand s seen e → MayEnd (atoms (past seen.history)) b
    → ended_in seen e ≡ map cell_of (members (atoms (past seen.history)) b) → mids ≡ seen.cells ++ repeat n (waiting ∷ []) → CanEnd (ended_in seen e) mids
can_by_members {s} {seen} {e} {mids} b n g may cells more =
    let can = can_end g.kept may in
    record {
      waits = λ j c got. rw more (get_longer seen.cells (repeat n (waiting ∷ [])) c waiting (can.waits j c (rw cells at got)));
      distinct = λ i j c first second. can.distinct i j c (rw cells at first) (rw cells at second);
    }

can_none : (seen : LoaderState) (e : Event) {mids : List Cell} → ended_in seen e ≡ [] → CanEnd (ended_in seen e) mids
can_none seen e empty = record {
  waits = λ j c got. absurd (let bad : ◌≡◌ {A = Option ℕ} None (Some c) = rw empty at got in cc);
  distinct = λ i j c first second. absurd (let bad : ◌≡◌ {A = Option ℕ} None (Some c) = rw empty at first in cc);
}

can_by_prime : {s : Service} {seen : LoaderState} {e : Event} {mids : List Cell} {k : Key} {o : Outcome} (r : DeskPrime) → MayStand s seen e
    → e.call ≡ Prime k o → prime_reply (atoms (past seen.history)) k ≡ r → e.reply ≡ primed r → mids ≡ seen.cells ++ repeat (begun_in e.reply) (waiting ∷ [])
    → CanEnd (ended_in seen e) mids
can_by_prime {s} {seen} {e} {mids} {k} {o} (prime.Primed c) g is r reply more =
    let own = primed_cell s seen.history e k o c g.next is reply in
    let begun = begun_cells g.kept in
    let next : c ≡ length seen.cells = omega arith in
    let here : slice_get mids c ≡ Some waiting = rw (more, reply, next) (get-append_at seen.cells waiting []) in
    record {
      waits = λ j d got. rw ((only_one j c d (rw (primed_in seen e is r) at got)).1) here;
      distinct = λ i j d first second.
          (only_one i c d (rw (primed_in seen e is r) at first)).0 ∙ sym (only_one j c d (rw (primed_in seen e is r) at second)).0;
    }
can_by_prime {s} {seen} {e} {mids} {k} {o} prime.Kept g is r reply more = can_none seen e (primed_in seen e is r)

-- the cells that it ends wait, once those that it begins are there
pub cells_can : {s : Service} {seen : LoaderState} {e : Event} {mids : List Cell} → MayStand s seen e
    → mids ≡ seen.cells ++ repeat (begun_in e.reply) (waiting ∷ []) → CanEnd (ended_in seen e) mids
cells_can {s} {seen} {e} {mids} g more = by e.call refl
  where
    by : (call : Call) → e.call ≡ call → CanEnd (ended_in seen e) mids
    by (Prime k o) is = can_by_prime (prime_reply (atoms (past seen.history)) k) g is refl (rw is at g.next.reply) more
    by (Settle b os) is = can_by_members b (begun_in e.reply) g (rw is at g.next.made).0 (rw is refl) more
    by (Fail b fault) is = can_by_members b (begun_in e.reply) g (rw is at g.next.made).0 (rw is refl) more
    by call is = can_none seen e (rw is refl)

members_few : (history : List Atom) (b : ℕ) → length (members history b) ≤ cells history
members_few [] b = omega arith
members_few (a ∷ before) b = by (begins a) (members_few before b)
  where
    put : (t : Bool) (m : Key × ℕ) → length (members before b) ≤ cells before
        → length (cond t (members before b ++ m ∷ []) (members before b)) ≤ cells before + 1
    put true m few = let long : length (members before b ++ m ∷ []) ≡ length (members before b) + 1 = length_push (members before b) m in omega arith
    put false m few = omega arith

    by : (o : Option Begun) → length (members before b) ≤ cells before → length (add_member b o (members before b)) ≤ count_cell o (cells before)
    by None few = few
    by (Some g) few = put (is_number b g.batch) (g.key, g.cell) few

-- a batch has no more members than there may be cells
few_end : {s : Service} {seen : LoaderState} {cs : List ℕ} (n : ℕ) → IsLoaderState s seen → cs ≡ member_cells seen.history n
    → length cs ≤ s.rules.limits.max_cells
few_end {s} {seen} {cs} n keeps cells =
    let H = atoms (past seen.history) in
    let long : length cs ≡ length (members H n) = ap length cells ∙ length-map (members H n) (λ (m : Key × ℕ). m.1) in
    let few = members_few H n in
    let all = keeps.desk.cells in
    let fit = keeps.cells_fit in
    omega arith

few_none : (seen : LoaderState) (e : Event) (n : ℕ) → ended_in seen e ≡ [] → length (ended_in seen e) ≤ n
few_none seen e n empty = rw empty (omega arith)

few_prime : (seen : LoaderState) (e : Event) {n : ℕ} (r : DeskPrime) → ended_in seen e ≡ cell_primed r → e.reply ≡ primed r → begun_in e.reply ≤ n
    → length (ended_in seen e) ≤ n
few_prime seen e (prime.Primed c) own reply fit = rw own (rw reply at fit)
few_prime seen e prime.Kept own reply fit = rw own (omega arith)

-- they are no more than there may be
pub cells_few : {s : Service} {seen : LoaderState} {e : Event} → MayStand s seen e → begun_in e.reply ≤ s.rules.limits.max_cells
    → length (ended_in seen e) ≤ s.rules.limits.max_cells
cells_few {s} {seen} {e} g fit = by e.call refl
  where
    by : (call : Call) → e.call ≡ call → length (ended_in seen e) ≤ s.rules.limits.max_cells
    by (Prime k o) is =
        few_prime seen e (prime_reply (atoms (past seen.history)) k) (primed_in seen e is refl) (rw is at g.next.reply) fit
    by (Settle b os) is = few_end b g.kept (rw is refl)
    by (Fail b fault) is = few_end b g.kept (rw is refl)
    by call is = few_none seen e s.rules.limits.max_cells (rw is refl)

-- What the end of a batch does to what its members' cells show.
use Rattle.std.proofs.Common.{◌≡◌, ◌∙◌, sym, ap, ℕ, zero, suc, ◌<◌, true, false, List, [], ◌∷◌, ◌++◌, length, map, Option, Some, None, slice_get, nat_eq, refl}
use Rattle.std.proofs.Common.{arith}
use Rattle.std.specs.List.{zip}
use Rattle.std.specs.Map.{lookup}
use Rattle.std.proofs.lemmas.Bool.{eq-eqb, ne_eqb}
use Rattle.std.proofs.lemmas.List.{length-map}
use Rattle.dl_values.specs.Key.{Key}
use Rattle.dl_desk.specs.History.{Atom, members}
use Rattle.dl_desk.specs.Events.{atoms, ends, cell_batch}
use Rattle.dl_values.specs.declared.outcome.Outcome.{Outcome}
use Rattle.dl_values.specs.declared.outcome.Outcome.TheVariants.{BatchFailed}
use Rattle.dl_values.specs.declared.outcome.BatchFault.{BatchFault}
use Rattle.dl_desk.specs.declared.event.Event.{Event}
use Rattle.dl_desk.specs.declared.event.Call.TheVariants.{Settle, Fail}
use Rattle.dl_desk.specs.Service.{Service, AnswersEach}
use Rattle.dl_desk.specs.Legal.{keys_of, MayBeMade, IsNext}
use Rattle.dl_desk.proofs.PastAtoms.{legal_atoms}
use Rattle.dl_history.specs.History.{past, IsLegal, ending_of}
use Rattle.dl_history.proofs.CellBatches.{NoCell, Rising, cell_member, member_cell, members-rise}
use Rattle.dl_history.proofs.PastEnds.{Spares, ending_batch}
use Rattle.dl_history.proofs.Endings.{spared_stays, shows_newest}

-- ---- the outcome beside a member

rising_rest : (x : Key × ℕ) (ms : List (Key × ℕ)) → Rising (x ∷ ms) → Rising ms
rising_rest x ms rising i j m n low first second = rising (suc i) (suc j) m n (omega arith) first second

-- the outcome beside a member's cell is the one at the member's place
beside_member : (ms : List (Key × ℕ)) (os : List Outcome) (i : ℕ) (m : Key × ℕ) (o : Outcome) → Rising ms → slice_get ms i ≡ Some m → slice_get os i ≡ Some o
    → lookup (nat_eq m.1) (zip (map (λ (n : Key × ℕ). n.1) ms) os) ≡ Some o
beside_member [] os i m o rising got given = absurd (let bad : ◌≡◌ {A = Option (Key × ℕ)} None (Some m) = got in cc)
beside_member (x ∷ ms) [] i m o rising got given = absurd (let bad : ◌≡◌ {A = Option Outcome} None (Some o) = given in cc)
beside_member (x ∷ ms) (p ∷ os) zero m o rising got given =
    let two : ◌≡◌ {A = Option (Key × ℕ)} (Some x) (Some m) = got in
    let same : x ≡ m = cc in
    rw (eq-eqb m.1 x.1 (ap (λ (n : Key × ℕ). n.1) (sym same))) given
beside_member (x ∷ ms) (p ∷ os) (suc i) m o rising got given =
    let low : x.1 < m.1 = rising 0 (suc i) x m (omega arith) refl got in
    rw (ne_eqb m.1 x.1 (λ e. absurd (omega arith))) (beside_member ms os i m o (rising_rest x ms rising) got given)

-- ---- a settle

-- a cell that is of none of the batch's members has not that batch
other_batch : (history : List Atom) (b c n : ℕ) → NoCell (members history b) c → cell_batch history c ≡ Some n → nat_eq n b ≡ false
other_batch history b c n none is = ne_eqb n b (λ e. let h = cell_member history c b (rw e at is) in none h.place h.member h.at h.is)

-- each member's cell shows the outcome at the member's place
pub settled_end : (s : Service) (es : List Event) (e : Event) (b : ℕ) (os : List Outcome) (i : ℕ) (m : Key × ℕ) (o : Outcome) → IsLegal s es → IsNext s (past es) e
    → e.call ≡ Settle b os → slice_get (members (atoms (past es)) b) i ≡ Some m → slice_get os i ≡ Some o
    → ending_of (es ++ e ∷ []) m.1 ≡ Some (record { at = length es; outcome = o })
settled_end s es e b os i m o legal next is got given =
    let H = atoms (past es) in
    let batch : cell_batch H m.1 ≡ Some b = member_cell s.rules H b i m (legal_atoms s (past es) legal) got in
    let now : ends b e ≡ true = rw is (eq-eqb b b refl) in
    let newest_is = ending_batch s e (past es) m.1 b (next, legal) batch now in
    shows_newest es e m.1 o newest_is
    (rw (is, batch) (beside_member (members H b) os i m o (members-rise s.rules H b (legal_atoms s (past es) legal)) got given))

-- the settle spares each cell that is no member's
pub settled_spares : (s : Service) (es : List Event) (e : Event) (b : ℕ) (os : List Outcome) (c : ℕ) → IsNext s (past es) e → e.call ≡ Settle b os
    → NoCell (members (atoms (past es)) b) c → Spares (atoms (past es)) e c
settled_spares s es e b os c next is none = record {
  not_primed = rw (next.reply, is) refl;
  not_ended = λ n batch. rw is (other_batch (atoms (past es)) b c n none batch);
}

-- each other cell shows what it showed
pub settled_others : (s : Service) (es : List Event) (e : Event) (b : ℕ) (os : List Outcome) (c : ℕ) → IsLegal s es → IsNext s (past es) e → e.call ≡ Settle b os
    → NoCell (members (atoms (past es)) b) c → ending_of (es ++ e ∷ []) c ≡ ending_of es c
settled_others s es e b os c legal next is none = spared_stays s es e c legal next (settled_spares s es e b os c next is none)

-- where the source answers each key, a settle has as many outcomes as its batch has members
pub settled_length : (s : Service) (es : List Event) (e : Event) (b : ℕ) (os : List Outcome) → AnswersEach s.answer → IsNext s (past es) e → e.call ≡ Settle b os
    → length os ≡ length (members (atoms (past es)) b)
settled_length s es e b os each next is =
    let H = atoms (past es) in
    let may : MayBeMade s.answer H (Settle b os) = rw is at next.made in
    let same : length os ≡ length (keys_of H b) = each (keys_of H b) os may.1 in
    let keys : length (keys_of H b) ≡ length (members H b) = length-map (members H b) (λ (m : Key × ℕ). m.0) in
    same ∙ keys

-- ---- a fail

-- each member's cell shows the batch's fault
pub failed_end : (s : Service) (es : List Event) (e : Event) (b : ℕ) (fault : BatchFault) (i : ℕ) (m : Key × ℕ) → IsLegal s es → IsNext s (past es) e
    → e.call ≡ Fail b fault → slice_get (members (atoms (past es)) b) i ≡ Some m
    → ending_of (es ++ e ∷ []) m.1 ≡ Some (record { at = length es; outcome = BatchFailed fault })
failed_end s es e b fault i m legal next is got =
    let H = atoms (past es) in
    let batch : cell_batch H m.1 ≡ Some b = member_cell s.rules H b i m (legal_atoms s (past es) legal) got in
    let now : ends b e ≡ true = rw is (eq-eqb b b refl) in
    let newest_is = ending_batch s e (past es) m.1 b (next, legal) batch now in
    shows_newest es e m.1 (BatchFailed fault) newest_is (rw is refl)

-- the fail spares each cell that is no member's
pub failed_spares : (s : Service) (es : List Event) (e : Event) (b : ℕ) (fault : BatchFault) (c : ℕ) → IsNext s (past es) e → e.call ≡ Fail b fault
    → NoCell (members (atoms (past es)) b) c → Spares (atoms (past es)) e c
failed_spares s es e b fault c next is none = record {
  not_primed = rw (next.reply, is) refl;
  not_ended = λ n batch. rw is (other_batch (atoms (past es)) b c n none batch);
}

-- each other cell shows what it showed
pub failed_others : (s : Service) (es : List Event) (e : Event) (b : ℕ) (fault : BatchFault) (c : ℕ) → IsLegal s es → IsNext s (past es) e → e.call ≡ Fail b fault
    → NoCell (members (atoms (past es)) b) c → ending_of (es ++ e ∷ []) c ≡ ending_of es c
failed_others s es e b fault c legal next is none = spared_stays s es e c legal next (failed_spares s es e b fault c next is none)

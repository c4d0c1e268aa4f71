-- A cell that was ended stays so.
use Rattle.std.proofs.Common.{◌≡◌, ◌∙◌, sym, ap, ℕ, ◌+◌, ◌<◌, ◌≤◌, Bool, true, false, cond, List, [], ◌∷◌, ◌++◌, Option, Some, None, option_map}
use Rattle.std.proofs.Common.{nat_eq, refl, arith}
use Rattle.std.specs.Option.{option_or, option_and_then}
use Rattle.std.proofs.lemmas.Bool.{eqb-true}
use Rattle.std.proofs.lemmas.Bool.Decides.{nat_tests}
use Rattle.dl_values.specs.Limits.{Rules}
use Rattle.dl_desk.specs.Laws.{EndsStay}
use Rattle.dl_desk.specs.Service.{Service}
use Rattle.dl_desk.specs.Legal.{IsNext, IsLegal}
use Rattle.dl_desk.specs.Events.{call_atoms, atoms, last_of, primes, ends_batch, ends, batch_at, cell_batch, Placed, newest, ending, ended}
use Rattle.dl_desk.specs.History.{Atom, Begun, begins, count_cell, cells, end_of, IsAnswered}
use Rattle.dl_desk.specs.History as atom
use Rattle.dl_desk.specs.declared.event.Event.{Event}
use Rattle.dl_desk.specs.declared.event.Call.{Call}
use Rattle.dl_desk.specs.declared.event.Call.TheVariants.{Settle, Fail}
use Rattle.dl_desk.specs.declared.event.Reply.{Reply}
use Rattle.dl_desk.specs.declared.reply.End.{End}
use Rattle.dl_desk.specs.declared.reply.End.TheVariants.{Settled, Failed}
use Rattle.dl_desk.proofs.Facts.{fresh_cell}
use Rattle.dl_desk.proofs.PastAtoms.{legal_atoms, event_primes, ends_may_end}

-- ---- cells are begun in order

count_cell-le : (o : Option Begun) (n : ℕ) → n ≤ count_cell o n
count_cell-le None n = omega arith
count_cell-le (Some g) n = omega arith

-- a longer history has no fewer cells
pub cells-append : (added history : List Atom) → cells history ≤ cells (added ++ history)
cells-append [] history = omega arith
cells-append (a ∷ added) history =
    let one = count_cell-le (begins a) (cells (added ++ history)) in
    let rest = cells-append added history in
    omega arith

-- the batch of a cell that was begun stays where one atom follows
pub batch_kept : (rules : Rules) (history : List Atom) (a : Atom) (c : ℕ) (o : Option Begun) → IsAnswered rules history a → begins a ≡ o → c < cells history
    → batch_at c o (cell_batch history c) ≡ cell_batch history c
batch_kept rules history a c None answered is low = refl
batch_kept rules history a c (Some g) answered is low =
    let next : g.cell ≡ cells history = (fresh_cell rules history a g answered is).cell_is in
    let other : nat_eq c g.cell ≡ false = grind (arith, nat_tests) in
    rw other refl

-- so it does where others follow
pub cell_batch-append : (rules : Rules) (added history : List Atom) (c : ℕ) → atom.AllAnswered rules (added ++ history) → c < cells history
    → cell_batch (added ++ history) c ≡ cell_batch history c
cell_batch-append rules [] history c legal low = refl
cell_batch-append rules (a ∷ added) history c legal low =
    let more = cells-append added history in
    let still : c < cells (added ++ history) = omega arith in
    batch_kept rules (added ++ history) a c (begins a) legal.0 refl still ∙ cell_batch-append rules added history c legal.1 low

-- and where an event follows
pub batch_stays : (s : Service) (e : Event) (before : List Event) (c : ℕ) → IsLegal s (e ∷ before) → c < cells (atoms before)
    → cell_batch (atoms (e ∷ before)) c ≡ cell_batch (atoms before) c
batch_stays s e before c legal low = cell_batch-append s.rules (call_atoms e.call e.reply) (atoms before) c (legal_atoms s (e ∷ before) legal) low

-- ---- a cell that was ended was begun

batch_low : (rules : Rules) (history : List Atom) (a : Atom) (c b : ℕ) (o : Option Begun) → IsAnswered rules history a → begins a ≡ o
    → (cell_batch history c ≡ Some b → c < cells history) → batch_at c o (cell_batch history c) ≡ Some b → c < count_cell o (cells history)
batch_low rules history a c b None answered is low e = low e
batch_low rules history a c b (Some g) answered is low e = by (nat_eq c g.cell) refl e
  where
    next : g.cell ≡ cells history
    next = (fresh_cell rules history a g answered is).cell_is

    by : (t : Bool) → nat_eq c g.cell ≡ t → cond t g.batch (cell_batch history c) ≡ Some b → c < cells history + 1
    by true same f = let eq : c ≡ g.cell = eqb-true c g.cell same in let n = next in omega arith
    by false other f = let l : c < cells history = low f in omega arith

pub cell_batch-low : (rules : Rules) (history : List Atom) (c b : ℕ) → atom.AllAnswered rules history → cell_batch history c ≡ Some b → c < cells history
cell_batch-low rules [] c b legal e = absurd (let bad : ◌≡◌ {A = Option ℕ} None (Some b) = e in cc)
cell_batch-low rules (a ∷ before) c b legal e = batch_low rules before a c b (begins a) legal.0 refl (cell_batch-low rules before c b legal.1) e

-- the cell that an event primes is begun by it
primes_low : (s : Service) (before : List Event) (e : Event) (c : ℕ) → IsNext s before e → primes c e ≡ true → c < cells (atoms (e ∷ before))
primes_low s before e c next now =
    let prime = event_primes s before e c next now in
    let same = prime.next in
    rw prime.is (omega arith)

primed_step : (s : Service) (e : Event) (before : List Event) (c : ℕ) (p : Placed) → IsNext s before e → (t : Bool) → primes c e ≡ t
    → (last_of (primes c) before ≡ Some p → c < cells (atoms before)) → cond t (Some (newest before e)) (last_of (primes c) before) ≡ Some p
    → c < cells (atoms (e ∷ before))
primed_step s e before c p next true now low is = primes_low s before e c next now
primed_step s e before c p next false other low is =
    let below : c < cells (atoms before) = low is in
    let more = cells-append (call_atoms e.call e.reply) (atoms before) in
    omega arith

pub primed-low : (s : Service) (past : List Event) (c : ℕ) (p : Placed) → IsLegal s past → last_of (primes c) past ≡ Some p → c < cells (atoms past)
primed-low s [] c p legal e = absurd (let bad : ◌≡◌ {A = Option Placed} None (Some p) = e in cc)
primed-low s (e ∷ before) c p legal is = primed_step s e before c p legal.0 (primes c e) refl (primed-low s before c p legal.1) is

ended_low : (s : Service) (past : List Event) (c : ℕ) (p : Placed) → IsLegal s past → (prime : Option Placed) → last_of (primes c) past ≡ prime
    → (batch : Option ℕ) → cell_batch (atoms past) c ≡ batch → option_or prime (option_and_then (λ b. last_of (ends b) past) batch) ≡ Some p
    → c < cells (atoms past)
ended_low s past c p legal (Some q) prime batch is e = primed-low s past c q legal prime
ended_low s past c p legal None prime (Some b) is e = cell_batch-low s.rules (atoms past) c b (legal_atoms s past legal) is
ended_low s past c p legal None prime None is e = absurd (let bad : ◌≡◌ {A = Option Placed} None (Some p) = e in cc)

pub ended-low : (s : Service) (past : List Event) (c : ℕ) (p : Placed) → IsLegal s past → ending past c ≡ Some p → c < cells (atoms past)
ended-low s past c p legal e = ended_low s past c p legal (last_of (primes c) past) refl (cell_batch (atoms past) c) refl e

-- ---- a batch ends once

end_split : (b n : ℕ) (e : End) (rest : Option End) → cond (nat_eq b n) (Some e) rest ≡ None → (nat_eq b n ≡ false) × (rest ≡ None)
end_split b n e rest none = by (nat_eq b n) refl none
  where
    by : (t : Bool) → nat_eq b n ≡ t → cond t (Some e) rest ≡ None → (nat_eq b n ≡ false) × (rest ≡ None)
    by true is f = absurd (let bad : ◌≡◌ {A = Option End} (Some e) None = f in cc)
    by false is f = (is, f)

atom_unended : (a : Atom) (history : List Atom) (b : ℕ) → end_of (a ∷ history) b ≡ None → end_of history b ≡ None
atom_unended (atom.Settle n) history b none = (end_split b n Settled (end_of history b) none).1
atom_unended (atom.Fail n) history b none = (end_split b n Failed (end_of history b) none).1
atom_unended a history b none = none

append_unended : (added history : List Atom) (b : ℕ) → end_of (added ++ history) b ≡ None → end_of history b ≡ None
append_unended [] history b none = none
append_unended (a ∷ added) history b none = append_unended added history b (atom_unended a (added ++ history) b none)

call_unended : (call : Call) (reply : Reply) (history : List Atom) (b : ℕ) → end_of (call_atoms call reply ++ history) b ≡ None → ends_batch b call ≡ false
call_unended (Settle n os) reply history b none = (end_split b n Settled (end_of history b) none).0
call_unended (Fail n fault) reply history b none = (end_split b n Failed (end_of history b) none).0
call_unended call reply history b none = refl

-- where no atom ends the batch, no event does
pub last-unended : (past : List Event) (b : ℕ) → end_of (atoms past) b ≡ None → last_of (ends b) past ≡ None
last-unended [] b none = refl
last-unended (e ∷ before) b none =
    let other : ends b e ≡ false = call_unended e.call e.reply (atoms before) b none in
    rw other (last-unended before b (append_unended (call_atoms e.call e.reply) (atoms before) b none))

-- a batch that was ended isn't ended again
end_stays : (s : Service) (e : Event) (before : List Event) (b : ℕ) (p : Placed) → IsNext s before e → last_of (ends b) before ≡ Some p
    → last_of (ends b) (e ∷ before) ≡ Some p
end_stays s e before b p next is = by (ends b e) refl
  where
    by : (t : Bool) → ends b e ≡ t → cond t (Some (newest before e)) (last_of (ends b) before) ≡ Some p
    by true now =
        let may = ends_may_end s before e b next now in
        let none : last_of (ends b) before ≡ None = last-unended before b may.no_end in
        let both : ◌≡◌ {A = Option Placed} None (Some p) = sym none ∙ is in
        absurd (cc)
    by false other = is

-- ---- one more event

primes_stay : (s : Service) (e : Event) (before : List Event) (c : ℕ) → IsNext s before e → c < cells (atoms before)
    → last_of (primes c) (e ∷ before) ≡ last_of (primes c) before
primes_stay s e before c next low = by (primes c e) refl
  where
    by : (t : Bool) → primes c e ≡ t → cond t (Some (newest before e)) (last_of (primes c) before) ≡ last_of (primes c) before
    by true now = let same = (event_primes s before e c next now).next in absurd (omega arith)
    by false other = refl

end_step : (s : Service) (e : Event) (before : List Event) (p : Placed) → IsNext s before e → (prime : Option Placed) (batch : Option ℕ)
    → option_or prime (option_and_then (λ b. last_of (ends b) before) batch) ≡ Some p
    → option_or prime (option_and_then (λ b. last_of (ends b) (e ∷ before)) batch) ≡ Some p
end_step s e before p next (Some q) batch is = is
end_step s e before p next None None is = is
end_step s e before p next None (Some b) is = end_stays s e before b p next is

ending_step : (s : Service) (e : Event) (before : List Event) (c : ℕ) (p : Placed) → IsLegal s (e ∷ before) → ending before c ≡ Some p
    → ending (e ∷ before) c ≡ Some p
ending_step s e before c p legal is =
    let low = ended-low s before c p legal.1 is in
    let prime = primes_stay s e before c legal.0 low in
    let batch = batch_stays s e before c legal low in
    let stays = end_step s e before p legal.0 (last_of (primes c) before) (cell_batch (atoms before) c) is in
    rw (prime, batch) stays

-- the event that ended a cell stays the same
pub ending_stays : (s : Service) (later before : List Event) (c : ℕ) (p : Placed) → IsLegal s (later ++ before) → ending before c ≡ Some p
    → ending (later ++ before) c ≡ Some p
ending_stays s [] before c p legal is = is
ending_stays s (e ∷ later) before c p legal is = ending_step s e (later ++ before) c p legal (ending_stays s later before c p legal.1 is)

place_stays : (s : Service) (later before : List Event) (c place : ℕ) → IsLegal s (later ++ before) → (o : Option Placed) → ending before c ≡ o
    → option_map (λ (p : Placed). p.place) o ≡ Some place → ended (later ++ before) c ≡ Some place
place_stays s later before c place legal None is e = absurd (let bad : ◌≡◌ {A = Option ℕ} None (Some place) = e in cc)
place_stays s later before c place legal (Some p) is e = ap (option_map (λ (q : Placed). q.place)) (ending_stays s later before c p legal is) ∙ e

pub ends_stay : EndsStay
ends_stay s later before c place legal is = place_stays s later before c place legal (ending before c) refl is

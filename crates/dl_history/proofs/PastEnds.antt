-- What one more event of a legal past does to the end of a cell.
use Rattle.std.proofs.Common.{◌≡◌, ◌∙◌, sym, ap, ℕ, ◌<◌, ◌≤◌, ◌⊎◌, inl, inr, Bool, true, false, cond, List, [], ◌∷◌, map, Option, Some, None, nat_eq}
use Rattle.std.proofs.Common.{refl, arith}
use Rattle.std.specs.Option.{option_or, option_and_then}
use Rattle.std.specs.List.{zip}
use Rattle.std.specs.Map.{lookup}
use Rattle.std.proofs.lemmas.Bool.{cases_lt, eq-eqb}
use Rattle.dl_values.specs.Key.{Key}
use Rattle.dl_desk.specs.History.{Atom, cells, sent, end_of}
use Rattle.dl_desk.specs.Events.{call_atoms, atoms, last_of, primes, ends, cell_batch, Placed, newest, ending, batch_cells, outcome_given, outcome}
use Rattle.dl_desk.specs.Legal.{IsNext, IsLegal}
use Rattle.dl_desk.specs.Service.{Service}
use Rattle.dl_desk.specs.declared.event.Event.{Event}
use Rattle.dl_desk.specs.declared.event.Call.{Call}
use Rattle.dl_desk.specs.declared.event.Call.TheVariants.{Settle}
use Rattle.dl_desk.proofs.Facts.{end_of-unsent}
use Rattle.dl_desk.proofs.LawEnds.{batch_stays, cell_batch-low, primed-low, ended-low, last-unended}
use Rattle.dl_desk.proofs.PastAtoms.{legal_atoms, event_primes, ends_may_end}
use Rattle.dl_history.proofs.CellBatches.{members_stay, still_unsent}

-- ---- a cell that was primed has no batch

event_unbatched : (s : Service) (before : List Event) (e : Event) (c : ℕ) → IsNext s before e → primes c e ≡ true → cell_batch (atoms (e ∷ before)) c ≡ None
event_unbatched s before e c next now = let prime = event_primes s before e c next now in rw (prime.is, eq-eqb c c refl) refl

-- the cell of a prime has no batch
pub primed_unbatched : (s : Service) (past : List Event) (c : ℕ) (p : Placed) → IsLegal s past → last_of (primes c) past ≡ Some p
    → cell_batch (atoms past) c ≡ None
primed_unbatched s [] c p legal is = absurd (let bad : ◌≡◌ {A = Option Placed} None (Some p) = is in cc)
primed_unbatched s (e ∷ before) c p legal is = by (primes c e) refl (λ old. primed_unbatched s before c p legal.1 old) is
  where
    by : (t : Bool) → primes c e ≡ t → (last_of (primes c) before ≡ Some p → cell_batch (atoms before) c ≡ None)
        → cond t (Some (newest before e)) (last_of (primes c) before) ≡ Some p → cell_batch (atoms (e ∷ before)) c ≡ None
    by true now rest f = event_unbatched s before e c legal.0 now
    by false other rest f =
        let low : c < cells (atoms before) = primed-low s before c p legal.1 f in
        batch_stays s e before c legal low ∙ rest f

-- a cell with a batch was not primed
pub batched_unprimed : (s : Service) (past : List Event) (c b : ℕ) → IsLegal s past → cell_batch (atoms past) c ≡ Some b → last_of (primes c) past ≡ None
batched_unprimed s past c b legal is = by (last_of (primes c) past) refl
  where
    by : (o : Option Placed) → last_of (primes c) past ≡ o → o ≡ None
    by None e = refl
    by (Some p) e =
        let none : cell_batch (atoms past) c ≡ None = primed_unbatched s past c p legal e in
        let bad : ◌≡◌ {A = Option ℕ} (Some b) None = sym is ∙ none in
        absurd (cc)

-- ---- the cells that have not ended

-- a cell that was not begun has not ended
pub high_unended : (s : Service) (past : List Event) (c : ℕ) → IsLegal s past → cells (atoms past) ≤ c → ending past c ≡ None
high_unended s past c legal high = by (ending past c) refl
  where
    by : (o : Option Placed) → ending past c ≡ o → o ≡ None
    by None e = refl
    by (Some p) e = let low : c < cells (atoms past) = ended-low s past c p legal e in absurd (omega arith)

-- nor has it a batch
pub high_unbatched : (s : Service) (past : List Event) (c : ℕ) → IsLegal s past → cells (atoms past) ≤ c → cell_batch (atoms past) c ≡ None
high_unbatched s past c legal high = by (cell_batch (atoms past) c) refl
  where
    by : (o : Option ℕ) → cell_batch (atoms past) c ≡ o → o ≡ None
    by None e = refl
    by (Some b) e = let low : c < cells (atoms past) = cell_batch-low s.rules (atoms past) c b (legal_atoms s past legal) e in absurd (omega arith)

-- a cell whose batch has not ended has not ended
pub open_unended : (s : Service) (past : List Event) (c b : ℕ) → IsLegal s past → cell_batch (atoms past) c ≡ Some b → end_of (atoms past) b ≡ None
    → ending past c ≡ None
open_unended s past c b legal is none = rw (batched_unprimed s past c b legal is, is) (last-unended past b none)

-- the batch of a cell that has ended is sent
pub ended_sent : (s : Service) (past : List Event) (c b : ℕ) (p : Placed) → IsLegal s past → ending past c ≡ Some p → cell_batch (atoms past) c ≡ Some b
    → b < sent (atoms past)
ended_sent s past c b p legal e is = by (cases_lt b (sent (atoms past)))
  where
    by : (b < sent (atoms past)) ⊎ (sent (atoms past) ≤ b) → b < sent (atoms past)
    by (inl low) = low
    by (inr high) =
        let none : ending past c ≡ None = open_unended s past c b legal is (end_of-unsent s.rules (atoms past) (legal_atoms s past legal) b high) in
        let bad : ◌≡◌ {A = Option Placed} None (Some p) = sym none ∙ e in
        absurd (cc)

-- ---- an event that does not end the cell

-- The event neither begins the cell by a prime nor ends its batch.
pub record Spares (history : List Atom) (e : Event) (c : ℕ) : Type 0 where
  pub not_primed : primes c e ≡ false
  pub not_ended : (b : ℕ) → cell_batch history c ≡ Some b → ends b e ≡ false

low_spared : (s : Service) (e : Event) (before : List Event) (c : ℕ) → IsLegal s (e ∷ before) → Spares (atoms before) e c
    → c < cells (atoms before) → ending (e ∷ before) c ≡ ending before c
low_spared s e before c legal spares low =
    rw (spares.not_primed, batch_stays s e before c legal low) (by (cell_batch (atoms before) c) refl)
  where
    by : (o : Option ℕ) → cell_batch (atoms before) c ≡ o
        → option_or (last_of (primes c) before) (option_and_then (λ b. last_of (ends b) (e ∷ before)) o) ≡ option_or (last_of (primes c) before)
        (option_and_then (λ b. last_of (ends b) before) o)
    by None is = refl
    by (Some b) is = rw (spares.not_ended b is) refl

unended_step : (s : Service) (e : Event) (before : List Event) (b : ℕ) → IsLegal s (e ∷ before) → sent (atoms before) ≤ b
    → last_of (ends b) (e ∷ before) ≡ None
unended_step s e before b legal high = by (ends b e) refl
  where
    by : (t : Bool) → ends b e ≡ t → cond t (Some (newest before e)) (last_of (ends b) before) ≡ None
    by true now = let may = ends_may_end s before e b legal.0 now in let low = may.is_sent in absurd (omega arith)
    by false other = last-unended before b (end_of-unsent s.rules (atoms before) (legal_atoms s before legal.1) b high)

unprimed_high : (s : Service) (past : List Event) (c : ℕ) → IsLegal s past → cells (atoms past) ≤ c → last_of (primes c) past ≡ None
unprimed_high s past c legal high = by (last_of (primes c) past) refl
  where
    by : (o : Option Placed) → last_of (primes c) past ≡ o → o ≡ None
    by None e = refl
    by (Some p) e = let low : c < cells (atoms past) = primed-low s past c p legal e in absurd (omega arith)

high_spared : (s : Service) (e : Event) (before : List Event) (c : ℕ) → IsLegal s (e ∷ before) → Spares (atoms before) e c
    → cells (atoms before) ≤ c → ending (e ∷ before) c ≡ None
high_spared s e before c legal spares high =
    rw (spares.not_primed, unprimed_high s before c legal.1 high) (by (cell_batch (atoms (e ∷ before)) c) refl)
  where
    none : cell_batch (atoms before) c ≡ None
    none = high_unbatched s before c legal.1 high

    by : (o : Option ℕ) → cell_batch (atoms (e ∷ before)) c ≡ o → option_and_then (λ b. last_of (ends b) (e ∷ before)) o ≡ None
    by None is = refl
    by (Some b) is =
        let unsent : sent (atoms before) ≤ b =
        still_unsent s.rules (call_atoms e.call e.reply) (atoms before) c (legal_atoms s (e ∷ before) legal) (λ n f. absurd (let bad : ◌≡◌ {A = Option ℕ} None (Some n) = sym none ∙ f in cc)) b is in
        unended_step s e before b legal unsent

-- the event that ended a cell stays, or there is still none
pub ending_spared : (s : Service) (e : Event) (before : List Event) (c : ℕ) → IsLegal s (e ∷ before) → Spares (atoms before) e c
    → ending (e ∷ before) c ≡ ending before c
ending_spared s e before c legal spares = by (cases_lt c (cells (atoms before)))
  where
    by : (c < cells (atoms before)) ⊎ (cells (atoms before) ≤ c) → ending (e ∷ before) c ≡ ending before c
    by (inl low) = low_spared s e before c legal spares low
    by (inr high) = high_spared s e before c legal spares high ∙ sym (high_unended s before c legal.1 high)

given_spared : (s : Service) (e : Event) (before : List Event) (c : ℕ) (p : Placed) → IsLegal s (e ∷ before) → ending before c ≡ Some p → (call : Call)
    → outcome_given (atoms (e ∷ before)) c call ≡ outcome_given (atoms before) c call
given_spared s e before c p legal is (Settle n os) =
    rw (batch_stays s e before c legal (ended-low s before c p legal.1 is)) (by (cell_batch (atoms before) c) refl)
  where
    by : (o : Option ℕ) → cell_batch (atoms before) c ≡ o
        → lookup (nat_eq c) (zip (batch_cells (atoms (e ∷ before)) o) os) ≡ lookup (nat_eq c) (zip (batch_cells (atoms before) o) os)
    by None at = refl
    by (Some b) at = ap (λ (ms : List (Key × ℕ)). lookup (nat_eq c) (zip (map (λ (m : Key × ℕ). m.1) ms) os))
        (members_stay s.rules (call_atoms e.call e.reply) (atoms before) b (legal_atoms s (e ∷ before) legal) (ended_sent s before c b p legal.1 is at))
given_spared s e before c p legal is call = refl

-- and so does what it gave to the cell
pub outcome_spared : (s : Service) (e : Event) (before : List Event) (c : ℕ) → IsLegal s (e ∷ before) → Spares (atoms before) e c
    → outcome (e ∷ before) c ≡ outcome before c
outcome_spared s e before c legal spares = rw (ending_spared s e before c legal spares) (by (ending before c) refl)
  where
    by : (o : Option Placed) → ending before c ≡ o
        → option_and_then (λ (p : Placed). outcome_given (atoms (e ∷ before)) c p.event.call) o ≡ option_and_then
        (λ (p : Placed). outcome_given (atoms before) c p.event.call) o
    by None is = refl
    by (Some p) is = given_spared s e before c p legal is p.event.call

-- ---- an event that ends the cell

-- the prime that begins a cell ends it
pub ending_primed : (e : Event) (before : List Event) (c : ℕ) → primes c e ≡ true → ending (e ∷ before) c ≡ Some (newest before e)
ending_primed e before c now = rw now refl

-- the end of a batch ends the cells of its members
pub ending_batch : (s : Service) (e : Event) (before : List Event) (c b : ℕ) → IsLegal s (e ∷ before) → cell_batch (atoms before) c ≡ Some b
    → ends b e ≡ true → ending (e ∷ before) c ≡ Some (newest before e)
ending_batch s e before c b legal is now =
    let low : c < cells (atoms before) = cell_batch-low s.rules (atoms before) c b (legal_atoms s before legal.1) is in
    let kept : cell_batch (atoms (e ∷ before)) c ≡ Some b = batch_stays s e before c legal low ∙ is in
    rw (batched_unprimed s (e ∷ before) c b legal kept, kept, now) refl

-- What one more event of a legal history does to what a cell shows.
use Rattle.std.proofs.Common.{◌≡◌, ◌∙◌, sym, ap, ℕ, ◌<◌, ◌≤◌, true, false, List, [], ◌∷◌, ◌++◌, length, Option, Some, None, slice_get, refl}
use Rattle.std.proofs.lemmas.Bool.{eq-eqb, ne_eqb}
use Rattle.std.proofs.lemmas.List.{length-reverse}
use Rattle.dl_values.specs.Key.{Key}
use Rattle.dl_desk.specs.History.{Atom, cells, members, held, MayEnd}
use Rattle.dl_desk.specs.History as atom
use Rattle.dl_desk.specs.Events.{atoms, begins_primed, primes, ends_batch, ends, cell_batch, newest, ending, outcome_given}
use Rattle.dl_desk.specs.Calls.{primed}
use Rattle.dl_desk.specs.Legal.{reply_to, IsNext}
use Rattle.dl_desk.specs.Service.{Service}
use Rattle.dl_values.specs.declared.outcome.Outcome.{Outcome}
use Rattle.dl_desk.specs.declared.event.Event.{Event}
use Rattle.dl_desk.specs.declared.event.Call.{Call}
use Rattle.dl_desk.specs.declared.event.Call.TheVariants.{Prime}
use Rattle.dl_desk.specs.declared.event.Reply.TheVariants.{Primed, Kept}
use Rattle.dl_desk.proofs.PastAtoms.{legal_atoms}
use Rattle.dl_history.specs.History.{past, IsLegal, ending_of}
use Rattle.dl_history.proofs.Pasts.{past-snoc}
use Rattle.dl_history.proofs.CellBatches.{member_cell, member_low, members-apart}
use Rattle.dl_history.proofs.PastEnds.{high_unended, open_unended, Spares, ending_spared, outcome_spared, ending_primed}

-- ---- no end

-- a cell that has no ending event shows none
shows_none : (es : List Event) (c : ℕ) → ending (past es) c ≡ None → ending_of es c ≡ None
shows_none es c none = rw none refl

-- a cell that was not begun shows no end
pub none_unbegun : (s : Service) (es : List Event) (c : ℕ) → IsLegal s es → cells (atoms (past es)) ≤ c → ending_of es c ≡ None
none_unbegun s es c legal high = shows_none es c (high_unended s (past es) c legal high)

-- the cell of a member of a batch that may end shows no end
pub member_open : (s : Service) (es : List Event) (b i : ℕ) (m : Key × ℕ) → IsLegal s es → MayEnd (atoms (past es)) b
    → slice_get (members (atoms (past es)) b) i ≡ Some m → ending_of es m.1 ≡ None
member_open s es b i m legal may got =
    let batch : cell_batch (atoms (past es)) m.1 ≡ Some b = member_cell s.rules (atoms (past es)) b i m (legal_atoms s (past es) legal) got in
    shows_none es m.1 (open_unended s (past es) m.1 b legal batch may.no_end)

-- the cell of a member was begun
pub member_begun : (s : Service) (es : List Event) (b i : ℕ) (m : Key × ℕ) → IsLegal s es → slice_get (members (atoms (past es)) b) i ≡ Some m
    → m.1 < cells (atoms (past es))
member_begun s es b i m legal got = member_low s.rules (atoms (past es)) b i m (legal_atoms s (past es) legal) got

-- no two members of a batch have one cell
pub members_distinct : (s : Service) (es : List Event) (b i j : ℕ) (m n : Key × ℕ) → IsLegal s es → slice_get (members (atoms (past es)) b) i ≡ Some m
    → slice_get (members (atoms (past es)) b) j ≡ Some n → m.1 ≡ n.1 → i ≡ j
members_distinct s es b i j m n legal first second same = members-apart s.rules (atoms (past es)) b i j m n (legal_atoms s (past es) legal) first second same

-- ---- an end stays

-- a cell that the event spares shows what it showed
pub spared_stays : (s : Service) (es : List Event) (e : Event) (c : ℕ) → IsLegal s es → IsNext s (past es) e → Spares (atoms (past es)) e c
    → ending_of (es ++ e ∷ []) c ≡ ending_of es c
spared_stays s es e c legal next spares =
    rw (past-snoc es e, outcome_spared s e (past es) c (next, legal) spares, ending_spared s e (past es) c (next, legal) spares) refl

-- ---- an event that ends no cell

-- The event begins no cell by a prime, and ends no batch.
pub record EndsNone (e : Event) : Type 0 where
  pub primes_none : (c : ℕ) → primes c e ≡ false
  pub ends_none : (b : ℕ) → ends b e ≡ false

-- so does a next event whose call is no end, and whose reply is no begun cell of a prime
pub call_ends_none : (s : Service) (es : List Event) (e : Event) (call : Call) → IsNext s (past es) e → e.call ≡ call
    → ((c : ℕ) → begins_primed c (reply_to s.rules (atoms (past es)) call) ≡ false) → ((b : ℕ) → ends_batch b call ≡ false) → EndsNone e
call_ends_none s es e call next is primes_none ends_none = record {
  primes_none = λ c. rw (next.reply, is) (primes_none c);
  ends_none = λ b. rw is (ends_none b);
}

-- and a prime of a key that is held
pub kept_ends_none : (e : Event) (k : Key) (o : Outcome) → e.call ≡ Prime k o → e.reply ≡ Kept → EndsNone e
kept_ends_none e k o is reply = record { primes_none = λ c. rw reply refl; ends_none = λ b. rw is refl }

-- such an event spares each cell
pub none_spares : (history : List Atom) (e : Event) (c : ℕ) → EndsNone e → Spares history e c
none_spares history e c none = record { not_primed = none.primes_none c; not_ended = λ b is. none.ends_none b }

-- so each shows what it showed
pub others_stay : (s : Service) (es : List Event) (e : Event) (c : ℕ) → IsLegal s es → IsNext s (past es) e → EndsNone e
    → ending_of (es ++ e ∷ []) c ≡ ending_of es c
others_stay s es e c legal next none = spared_stays s es e c legal next (none_spares (atoms (past es)) e c none)

-- ---- an event that ends a cell

-- what a cell shows that the newest event ended
pub shows_newest : (es : List Event) (e : Event) (c : ℕ) (o : Outcome) → ending (e ∷ past es) c ≡ Some (newest (past es) e)
    → outcome_given (atoms (e ∷ past es)) c e.call ≡ Some o → ending_of (es ++ e ∷ []) c ≡ Some (record { at = length es; outcome = o })
shows_newest es e c o is given = rw (past-snoc es e, is, given, length-reverse es) refl

-- ---- a prime of a key that is not held

prime_answer : (history : List Atom) (k : Key) (c : ℕ) (o : Option ℕ) → Primed c ≡ primed (atom.prime_reply_at history o) → c ≡ cells history
prime_answer history k c None is = let two : Primed c ≡ Primed (cells history) = is in cc
prime_answer history k c (Some d) is = absurd (let bad : Primed c ≡ Kept = is in cc)

-- the cell that a prime begins is the next one
pub primed_cell : (s : Service) (es : List Event) (e : Event) (k : Key) (o : Outcome) (c : ℕ) → IsNext s (past es) e → e.call ≡ Prime k o → e.reply ≡ Primed c
    → c ≡ cells (atoms (past es))
primed_cell s es e k o c next is reply =
    let H = atoms (past es) in
    let given : Primed c ≡ reply_to s.rules H (Prime k o) = sym reply ∙ (next.reply ∙ ap (reply_to s.rules H) is) in
    prime_answer H k c (held H k) given

-- it shows the outcome that the prime gave it
pub primed_end : (s : Service) (es : List Event) (e : Event) (k : Key) (o : Outcome) (c : ℕ) → IsLegal s es → IsNext s (past es) e → e.call ≡ Prime k o
    → e.reply ≡ Primed c → ending_of (es ++ e ∷ []) c ≡ Some (record { at = length es; outcome = o })
primed_end s es e k o c legal next is reply =
    let now : primes c e ≡ true = rw reply (eq-eqb c c refl) in
    shows_newest es e c o (ending_primed e (past es) c now) (rw is refl)

-- the prime spares each other cell
pub primed_spares : (history : List Atom) (e : Event) (k : Key) (o : Outcome) (c d : ℕ) → e.call ≡ Prime k o → e.reply ≡ Primed c → (d ≡ c → ⊥)
    → Spares history e d
primed_spares history e k o c d is reply other = record { not_primed = rw reply (ne_eqb d c other); not_ended = λ b at. rw is refl }

-- each other cell shows what it showed
pub primed_others : (s : Service) (es : List Event) (e : Event) (k : Key) (o : Outcome) (c d : ℕ) → IsLegal s es → IsNext s (past es) e → e.call ≡ Prime k o
    → e.reply ≡ Primed c → (d ≡ c → ⊥) → ending_of (es ++ e ∷ []) d ≡ ending_of es d
primed_others s es e k o c d legal next is reply other = spared_stays s es e d legal next (primed_spares (atoms (past es)) e k o c d is reply other)

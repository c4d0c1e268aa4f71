-- What one more event adds to the history that a past tells, and that the history of a legal past is answered.
use Rattle.std.proofs.Common.{◌≡◌, ◌∙◌, sym, ap, subst, ℕ, true, false, List, [], ◌∷◌, ◌++◌, map, reverse, Option, Some, None, refl, append_assoc}
use Rattle.std.specs.List.{zip}
use Rattle.std.proofs.lemmas.Bool.{eqb-true}
use Rattle.std.proofs.lemmas.Grind.{reverse_onto}
use Rattle.dl_values.specs.Answering.{Answering}
use Rattle.dl_values.specs.Key.{Key}
use Rattle.dl_values.specs.Limits.{Rules}
use Rattle.dl_values.specs.declared.outcome.Outcome.{Outcome}
use Rattle.dl_desk.specs.Service.{Service}
use Rattle.dl_desk.specs.Laws.{LegalPastsAreAnswered}
use Rattle.dl_desk.specs.Calls.{primed}
use Rattle.dl_desk.specs.Legal.{reply_to, call_of, MayBeMade, IsNext, IsLegal}
use Rattle.dl_desk.specs.Events.{loads, call_atoms, atoms, begins_primed, primes, ends_batch, ends}
use Rattle.dl_desk.specs.History.{Atom, MayEnd, cells, held, load_reply, load_replies, prime_reply, prime_reply_at, loaded}
use Rattle.dl_desk.specs.History as atom
use Rattle.dl_desk.specs.Calls.{after}
use Rattle.dl_desk.specs.declared.reply.LoadReply.{LoadReply}
use Rattle.dl_desk.specs.declared.reply.DeskPrime.{DeskPrime}
use Rattle.dl_desk.specs.declared.reply.DeskPrime.TheVariants as prime
use Rattle.dl_desk.specs.declared.event.Event.{Event}
use Rattle.dl_desk.specs.declared.event.Call.{Call}
use Rattle.dl_desk.specs.declared.event.Call.TheVariants.{Load, LoadMany, Prime, Dispatch, Settle, Fail}

-- ---- the atoms of a call

-- a loadMany begins with its first load
pub loads-cons : (k : Key) (ks : List Key) (r : LoadReply) (rs : List LoadReply) (history : List Atom)
    → loads (k ∷ ks) (r ∷ rs) ++ history ≡ loads ks rs ++ atom.Load k r ∷ history
loads-cons k ks r rs history =
    let rest : List Atom = map (λ (p : Key × LoadReply). atom.Load p.0 p.1) (zip ks rs) in
    ap (λ (xs : List Atom). xs ++ history) (reverse_onto rest (atom.Load k r) []) ∙ append_assoc (reverse rest) (atom.Load k r ∷ []) history

-- an answered loadMany leaves the history with its loads
pub loads_made : (rules : Rules) (history : List Atom) (ks : List Key) → loads ks (load_replies rules history ks) ++ history ≡ loaded rules history ks
loads_made rules history [] = refl
loads_made rules history (k ∷ ks) =
    let r = load_reply rules history k in
    loads-cons k ks r (load_replies rules (atom.Load k r ∷ history) ks) history ∙ loads_made rules (atom.Load k r ∷ history) ks

prime_atoms : (k : Key) (o : Outcome) (r : DeskPrime) → call_atoms (Prime k o) (primed r) ≡ atom.Prime k r ∷ []
prime_atoms k o (prime.Primed c) = refl
prime_atoms k o prime.Kept = refl

call_after : (rules : Rules) (history : List Atom) (call : Call) → call_atoms call (reply_to rules history call) ++ history ≡ after rules history (call_of call)
call_after rules history (LoadMany ks) = loads_made rules history ks
call_after rules history (Prime k o) = ap (λ (xs : List Atom). xs ++ history) (prime_atoms k o (prime_reply history k))
call_after rules history call = refl

-- a next event leaves the history that a desk's call leaves
pub atoms_next : (s : Service) (before : List Event) (e : Event) → IsNext s before e → atoms (e ∷ before) ≡ after s.rules (atoms before) (call_of e.call)
atoms_next s before e next = rw next.reply (call_after s.rules (atoms before) e.call)

-- ---- histories that are answered

loaded_answered : (rules : Rules) (history : List Atom) (ks : List Key) → atom.AllAnswered rules history → atom.AllAnswered rules (loaded rules history ks)
loaded_answered rules history [] legal = legal
loaded_answered rules history (k ∷ ks) legal = loaded_answered rules (atom.Load k (load_reply rules history k) ∷ history) ks (refl, legal)

after_answered : (answer : Answering) (rules : Rules) (history : List Atom) (call : Call) → MayBeMade answer history call → atom.AllAnswered rules history
    → atom.AllAnswered rules (after rules history (call_of call))
after_answered answer rules history (Load k) may legal = (refl, legal)
after_answered answer rules history (LoadMany ks) may legal = loaded_answered rules history ks legal
after_answered answer rules history (Prime k o) may legal = (refl, legal)
after_answered answer rules history Dispatch may legal = (refl, legal)
after_answered answer rules history (Settle b os) may legal = (may.0, legal)
after_answered answer rules history (Fail b fault) may legal = (may.0, legal)
after_answered answer rules history call may legal = (tt, legal)

-- the history that a legal past tells is answered
pub legal_atoms : LegalPastsAreAnswered
legal_atoms s [] legal = tt
legal_atoms s (e ∷ before) legal =
    rw (atoms_next s before e legal.0) (after_answered s.answer s.rules (atoms before) e.call legal.0.made (legal_atoms s before legal.1))

-- what stands before other events of a legal past is legal
pub legal_before : (s : Service) (later before : List Event) → IsLegal s (later ++ before) → IsLegal s before
legal_before s [] before legal = legal
legal_before s (e ∷ later) before legal = legal_before s later before legal.1

-- ---- a prime that begins a cell

-- what is added is the prime that begins the cell, which is the next one
pub record PrimesCell (history added : List Atom) (c : ℕ) : Type 0 where
  pub key : Key
  pub is : added ≡ atom.Prime key (prime.Primed c) ∷ []
  pub next : c ≡ cells history

prime_primes : (history : List Atom) (k : Key) (o : Outcome) (c : ℕ) (h : Option ℕ) → begins_primed c (primed (prime_reply_at history h)) ≡ true
    → PrimesCell history (call_atoms (Prime k o) (primed (prime_reply_at history h))) c
prime_primes history k o c (Some d) now = absurd (let bad : false ≡ true = now in cc)
prime_primes history k o c None now =
    let next : c ≡ cells history = eqb-true c (cells history) now in
    record { key = k; is = ap (λ (n : ℕ). atom.Prime k (prime.Primed n) ∷ []) (sym next); next = next }

call_primes : (rules : Rules) (history : List Atom) (call : Call) (c : ℕ) → begins_primed c (reply_to rules history call) ≡ true
    → PrimesCell history (call_atoms call (reply_to rules history call)) c
call_primes rules history (Prime k o) c now = prime_primes history k o c (held history k) now
call_primes rules history call c now = absurd (let bad : false ≡ true = now in cc)

-- a next event that primes a cell is such a prime
pub event_primes : (s : Service) (before : List Event) (e : Event) (c : ℕ) → IsNext s before e → primes c e ≡ true
    → PrimesCell (atoms before) (call_atoms e.call e.reply) c
event_primes s before e c next now =
    let told : begins_primed c (reply_to s.rules (atoms before) e.call) ≡ true = rw next.reply at now in
    rw next.reply (call_primes s.rules (atoms before) e.call c told)

-- ---- the end of a batch

call_may_end : (answer : Answering) (history : List Atom) (call : Call) (b : ℕ) → MayBeMade answer history call → ends_batch b call ≡ true
    → MayEnd history b
call_may_end answer history (Settle n os) b may now = subst (MayEnd history) (sym (eqb-true b n now)) may.0
call_may_end answer history (Fail n fault) b may now = subst (MayEnd history) (sym (eqb-true b n now)) may.0
call_may_end answer history call b may now = absurd (let bad : false ≡ true = now in cc)

-- the batch that a next event ends is one that may end
pub ends_may_end : (s : Service) (before : List Event) (e : Event) (b : ℕ) → IsNext s before e → ends b e ≡ true → MayEnd (atoms before) b
ends_may_end s before e b next now = call_may_end s.answer (atoms before) e.call b next.made now

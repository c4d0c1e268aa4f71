-- A cell that has ended shows an outcome.
use Rattle.std.proofs.Common.{◌≡◌, ◌∙◌, sym, ap, ℕ, ◌<◌, ◌⊎◌, inl, inr, List, [], ◌∷◌, ◌++◌, length, Option, Some, None, option_map, slice_get, refl, arith}
use Rattle.std.proofs.lemmas.Bool.{cases_eq}
use Rattle.std.proofs.lemmas.Option.{slice_get_within}
use Rattle.dl_values.specs.Key.{Key}
use Rattle.dl_desk.specs.History.{members, prime_reply}
use Rattle.dl_desk.specs.Events.{atoms, Placed, ends, ended, outcome}
use Rattle.dl_values.specs.declared.outcome.Outcome.{Outcome}
use Rattle.dl_values.specs.declared.outcome.Outcome.TheVariants.{BatchFailed}
use Rattle.dl_values.specs.declared.outcome.BatchFault.{BatchFault}
use Rattle.dl_desk.specs.declared.reply.DeskPrime.{DeskPrime}
use Rattle.dl_desk.specs.declared.reply.DeskPrime.TheVariants as prime
use Rattle.dl_desk.specs.declared.event.Event.{Event}
use Rattle.dl_desk.specs.declared.event.Ending.{Ending}
use Rattle.dl_desk.specs.declared.event.Call.{Call}
use Rattle.dl_desk.specs.declared.event.Call.TheVariants.{Prime, Settle, Fail}
use Rattle.dl_desk.specs.Service.{Service, AnswersEach}
use Rattle.dl_desk.specs.Calls.{primed}
use Rattle.dl_desk.specs.Legal.{reply_to, IsNext}
use Rattle.dl_history.specs.History.{past, IsLegal, end_with, ending_of}
use Rattle.dl_history.proofs.ListLemmas.{get-inside}
use Rattle.dl_history.proofs.Pasts.{by_events, past-snoc}
use Rattle.dl_history.proofs.CellBatches.{HasCell, NoCell, has_cell}
use Rattle.dl_history.proofs.PastEnds.{Spares, ending_spared, outcome_spared}
use Rattle.dl_history.proofs.Endings.{call_ends_none, kept_ends_none, none_spares, primed_end, primed_spares}
use Rattle.dl_history.proofs.BatchEndings.{settled_end, settled_spares, settled_length, failed_end, failed_spares}

-- ---- what is shown

end_parts : (p : Option ℕ) (o : Option Outcome) (x : Ending) → end_with p o ≡ Some x → (p ≡ Some x.at) × (o ≡ Some x.outcome)
end_parts None o x is = absurd (let bad : ◌≡◌ {A = Option Ending} None (Some x) = is in cc)
end_parts (Some p) None x is = absurd (let bad : ◌≡◌ {A = Option Ending} None (Some x) = is in cc)
end_parts (Some p) (Some o) x is =
    let one : Ending = record { at = p; outcome = o } in
    let two : ◌≡◌ {A = Option Ending} (Some one) (Some x) = is in
    let same : one ≡ x = cc in
    (ap (λ (y : Ending). Some y.at) same, ap (λ (y : Ending). Some y.outcome) same)

-- a cell that shows an end has ended there, with that outcome
pub shown_parts : (es : List Event) (c : ℕ) (x : Ending) → ending_of es c ≡ Some x → (ended (past es) c ≡ Some x.at) × (outcome (past es) c ≡ Some x.outcome)
shown_parts es c x is = end_parts (ended (past es) c) (outcome (past es) c) x is

-- ---- each end gives an outcome

-- The event ends the cell, which then shows an end at the event's place, or spares it.
abbrev pub EndsOrSpares : List Event → Event → ℕ → Type 0
EndsOrSpares es e c =
    ((o : Outcome) × (ending_of (es ++ e ∷ []) c ≡ Some (record { at = length es; outcome = o }))) ⊎ Spares (atoms (past es)) e c

ends_or_spares_prime : (s : Service) (es : List Event) (e : Event) (c : ℕ) (k : Key) (o : Outcome) → IsLegal s es → IsNext s (past es) e → e.call ≡ Prime k o
    → (r : DeskPrime) → e.reply ≡ primed r → EndsOrSpares es e c
ends_or_spares_prime s es e c k o legal next is prime.Kept reply = inr (none_spares (atoms (past es)) e c (kept_ends_none e k o is reply))
ends_or_spares_prime s es e c k o legal next is (prime.Primed d) reply = by (cases_eq c d)
  where
    by : (c ≡ d) ⊎ (c ≡ d → ⊥) → EndsOrSpares es e c
    by (inl same) = inl (o, rw same (primed_end s es e k o d legal next is reply))
    by (inr other) = inr (primed_spares (atoms (past es)) e k o d c is reply other)

ends_or_spares_settle : (s : Service) (es : List Event) (e : Event) (c b : ℕ) (os : List Outcome) → AnswersEach s.answer → IsLegal s es → IsNext s (past es) e
    → e.call ≡ Settle b os → EndsOrSpares es e c
ends_or_spares_settle s es e c b os each legal next is = by (has_cell (members (atoms (past es)) b) c)
  where
    of_member : (h : HasCell (members (atoms (past es)) b) c) (o : Option Outcome) → slice_get os h.place ≡ o → EndsOrSpares es e c
    of_member h None none =
        let low : h.place < length (members (atoms (past es)) b) = slice_get_within (members (atoms (past es)) b) h.place h.member h.at in
        let many : length os ≡ length (members (atoms (past es)) b) = settled_length s es e b os each next is in
        absurd (get-inside os h.place (omega arith) none)
    of_member h (Some o) got = inl (o, rw h.is at (settled_end s es e b os h.place h.member o legal next is h.at got))

    by : HasCell (members (atoms (past es)) b) c ⊎ NoCell (members (atoms (past es)) b) c → EndsOrSpares es e c
    by (inl h) = of_member h (slice_get os h.place) refl
    by (inr none) = inr (settled_spares s es e b os c next is none)

ends_or_spares_fail : (s : Service) (es : List Event) (e : Event) (c b : ℕ) (fault : BatchFault) → IsLegal s es → IsNext s (past es) e → e.call ≡ Fail b fault
    → EndsOrSpares es e c
ends_or_spares_fail s es e c b fault legal next is = by (has_cell (members (atoms (past es)) b) c)
  where
    by : HasCell (members (atoms (past es)) b) c ⊎ NoCell (members (atoms (past es)) b) c → EndsOrSpares es e c
    by (inl h) = inl (BatchFailed fault, rw h.is at (failed_end s es e b fault h.place h.member legal next is h.at))
    by (inr none) = inr (failed_spares s es e b fault c next is none)

ends_or_spares_call : (s : Service) (es : List Event) (e : Event) (c : ℕ) → AnswersEach s.answer → IsLegal s es → IsNext s (past es) e → (call : Call) → e.call ≡ call
    → EndsOrSpares es e c
ends_or_spares_call s es e c each legal next (Prime k o) is =
    ends_or_spares_prime s es e c k o legal next is (prime_reply (atoms (past es)) k) (next.reply ∙ ap (reply_to s.rules (atoms (past es))) is)
ends_or_spares_call s es e c each legal next (Settle b os) is = ends_or_spares_settle s es e c b os each legal next is
ends_or_spares_call s es e c each legal next (Fail b fault) is = ends_or_spares_fail s es e c b fault legal next is
ends_or_spares_call s es e c each legal next call is = inr (none_spares (atoms (past es)) e c (call_ends_none s es e call next is (λ d. refl) (λ b. refl)))

-- where the source answers each key, a next event ends a cell, which then shows that, or spares it
pub ends_or_spares : (s : Service) (es : List Event) (e : Event) (c : ℕ) → AnswersEach s.answer → IsLegal s es → IsNext s (past es) e → EndsOrSpares es e c
ends_or_spares s es e c each legal next = ends_or_spares_call s es e c each legal next e.call refl

-- ---- each cell that has ended has an outcome

abbrev HaveOutcomes : List Event → Type 0
HaveOutcomes es = (c p : ℕ) → ended (past es) c ≡ Some p → (o : Outcome) × (outcome (past es) c ≡ Some o)

outcomes_none : HaveOutcomes []
outcomes_none c p is = absurd (let bad : ◌≡◌ {A = Option ℕ} None (Some p) = is in cc)

outcomes_more : (s : Service) → AnswersEach s.answer → (es : List Event) (e : Event) → IsLegal s es → IsNext s (past es) e → HaveOutcomes es
    → HaveOutcomes (es ++ e ∷ [])
outcomes_more s each es e legal next rest c p is = by (ends_or_spares s es e c each legal next)
  where
    by : EndsOrSpares es e c → (o : Outcome) × (outcome (past (es ++ e ∷ [])) c ≡ Some o)
    by (inl ends) = let x : Ending = record { at = length es; outcome = ends.0 } in (ends.0, (shown_parts (es ++ e ∷ []) c x ends.1).1)
    by (inr spares) =
        let same : ended (e ∷ past es) c ≡ ended (past es) c =
        ap (option_map (λ (q : Placed). q.place)) (ending_spared s e (past es) c (next, legal) spares) in
        let before : ended (past es) c ≡ Some p = sym same ∙ (rw (past-snoc es e) at is) in
        let found : (o : Outcome) × (outcome (past es) c ≡ Some o) = rest c p before in
        (found.0, rw (past-snoc es e) (outcome_spared s e (past es) c (next, legal) spares ∙ found.1))

-- where the source answers each key, a cell that has ended was given an outcome
pub has_outcome : (s : Service) (es : List Event) (c p : ℕ) → AnswersEach s.answer → IsLegal s es → ended (past es) c ≡ Some p
    → (o : Outcome) × (outcome (past es) c ≡ Some o)
has_outcome s es c p each legal is =
    by_events s HaveOutcomes outcomes_none (λ xs e before next rest. outcomes_more s each xs e before next rest) es legal c p is

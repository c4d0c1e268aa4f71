-- The past of a history, one event after another, and the legal histories.
use Rattle.std.proofs.Common.{◌≡◌, ◌∙◌, sym, ap, subst, ℕ, suc, List, [], ◌∷◌, ◌++◌, take, drop, reverse, Some, slice_get, append_assoc}
use Rattle.std.proofs.lemmas.List.{reverse-append, reverse-reverse, take-append-drop}
use Rattle.std.proofs.lemmas.Grind.{reverse_onto}
use Rattle.dl_desk.specs.Events.{atoms}
use Rattle.dl_desk.specs.Calls.{after}
use Rattle.dl_desk.specs.Legal.{call_of, IsNext}
use Rattle.dl_desk.specs.Legal as desk
use Rattle.dl_desk.specs.Service.{Service}
use Rattle.dl_desk.specs.declared.event.Event.{Event}
use Rattle.dl_desk.proofs.PastAtoms.{legal_before, atoms_next as past_next}
use Rattle.dl_history.specs.History.{past, IsLegal}
use Rattle.dl_history.proofs.ListLemmas.{take-get}

-- the past of one more event has it first
pub past-snoc : (es : List Event) (e : Event) → past (es ++ e ∷ []) ≡ e ∷ past es
past-snoc es e = reverse-append es (e ∷ [])

-- a legal history with a next event is legal
pub legal_more : (s : Service) (es : List Event) (e : Event) → IsLegal s es → IsNext s (past es) e → IsLegal s (es ++ e ∷ [])
legal_more s es e legal next = subst (desk.IsLegal s) (sym (past-snoc es e)) (next, legal)

-- the front of a legal history is legal
pub legal_front : (s : Service) (es later : List Event) → IsLegal s (es ++ later) → IsLegal s es
legal_front s es later legal = legal_before s (past later) (past es) (subst (desk.IsLegal s) (reverse-append es later) legal)

legal_last : (s : Service) (es : List Event) (e : Event) → IsLegal s (es ++ e ∷ []) → IsNext s (past es) e
legal_last s es e legal =
    let parts : desk.IsLegal s (e ∷ past es) = subst (desk.IsLegal s) (past-snoc es e) legal in
    parts.0

-- each event of a legal history is a next one of those before it
pub legal_at : (s : Service) (es later : List Event) (e : Event) → IsLegal s (es ++ e ∷ later) → IsNext s (past es) e
legal_at s es later e legal =
    let whole : IsLegal s ((es ++ e ∷ []) ++ later) = subst (IsLegal s) (sym (append_assoc es (e ∷ []) later)) legal in
    legal_last s es e (legal_front s (es ++ e ∷ []) later whole)

-- so is the one at a place
pub legal_place : (s : Service) (es : List Event) (k : ℕ) (e : Event) → IsLegal s es → slice_get es k ≡ Some e → IsNext s (past (take k es)) e
legal_place s es k e legal got =
    let whole : IsLegal s (take (suc k) es ++ drop (suc k) es) = subst (IsLegal s) (sym (take-append-drop (suc k) es)) legal in
    let front = legal_front s (take (suc k) es) (drop (suc k) es) whole in
    legal_last s (take k es) e (subst (IsLegal s) (take-get es k e got) front)

-- what holds of no events, and of a legal history with a next event if it holds of the history, holds of
-- every legal history
pub by_events : (s : Service) (P : List Event → Type 0) → P []
    → ((es : List Event) (e : Event) → IsLegal s es → IsNext s (past es) e → P es → P (es ++ e ∷ []))
    → (es : List Event) → IsLegal s es → P es
by_events s P none more es legal = subst P (reverse-reverse es) (by (past es) legal)
  where
    by : (ps : List Event) → desk.IsLegal s ps → P (reverse ps)
    by [] legal = none
    by (e ∷ before) legal =
        let same : before ≡ past (reverse before) = sym (reverse-reverse before) in
        let front : IsLegal s (reverse before) = subst (desk.IsLegal s) same legal.1 in
        let next : IsNext s (past (reverse before)) e = subst (λ (ps : List Event). IsNext s ps e) same legal.0 in
        subst P (sym (reverse_onto before e [])) (more (reverse before) e front next (by before legal.1))

-- a next event leaves the history that a desk's call leaves
pub atoms_next : (s : Service) (es : List Event) (e : Event) → IsNext s (past es) e
    → atoms (past (es ++ e ∷ [])) ≡ after s.rules (atoms (past es)) (call_of e.call)
atoms_next s es e next = ap atoms (past-snoc es e) ∙ past_next s (past es) e next

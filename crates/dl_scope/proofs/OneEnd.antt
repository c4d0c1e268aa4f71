-- In a legal history no batch ends twice.
use Rattle.std.proofs.Common.{◌≡◌, ◌∙◌, ap, sym, subst, refl, ℕ, ◌<◌, true, false, Bool, List, [], ◌∷◌, ◌++◌, length, Option, Some, None, slice_get}
use Rattle.std.proofs.Common.{cond, nat_eq, ◌⊎◌, inl, inr}
use Rattle.std.proofs.lemmas.Bool.{eq-eqb}
use Rattle.dl_values.specs.Key.{Key}
use Rattle.dl_values.specs.Limits.{Rules}
use Rattle.dl_desk.specs.History.{Atom, end_of, load_reply, loaded}
use Rattle.dl_desk.specs.History as atom
use Rattle.dl_desk.specs.Events.{atoms}
use Rattle.dl_desk.specs.Calls.{after}
use Rattle.dl_values.specs.Answering.{Answering}
use Rattle.dl_desk.specs.declared.reply.End.{End}
use Rattle.dl_desk.specs.declared.reply.End.TheVariants.{Settled, Failed}
use Rattle.dl_desk.specs.Legal.{call_of, MayBeMade, IsNext}
use Rattle.dl_history.specs.History.{past, IsLegal}
use Rattle.dl_desk.specs.Service.{Service}
use Rattle.dl_desk.specs.declared.event.Event.{Event}
use Rattle.dl_desk.specs.declared.event.Call.{Call}
use Rattle.dl_desk.specs.declared.event.Call.TheVariants.{LoadMany, Settle, Fail}
use Rattle.dl_history.proofs.ListLemmas.{get-snoc}
use Rattle.dl_history.proofs.Pasts.{by_events, atoms_next}
use Rattle.dl_scope.specs.Headline.{Ends, EndOnce}

-- ---- one call

no_such_end : (b n : ℕ) (e : End) (rest : Option End) → cond (nat_eq b n) (Some e) rest ≡ None → (n ≡ b → ⊥) × (rest ≡ None)
no_such_end b n e rest none = by (nat_eq b n) refl none
  where
    by : (t : Bool) → nat_eq b n ≡ t → cond t (Some e) rest ≡ None → (n ≡ b → ⊥) × (rest ≡ None)
    by true is f = absurd (let bad : ◌≡◌ {A = Option End} (Some e) None = f in cc)
    by false is f = (λ same. let bad : ◌≡◌ {A = Bool} true false = sym (eq-eqb b n (sym same)) ∙ is in cc, f)

pub loads_end_none : (rules : Rules) (history : List Atom) (ks : List Key) (b : ℕ) → end_of (loaded rules history ks) b ≡ end_of history b
loads_end_none rules history [] b = refl
loads_end_none rules history (k ∷ ks) b = loads_end_none rules (atom.Load k (load_reply rules history k) ∷ history) ks b

-- where a batch has no end after a call, it had none before, and the call ends another or none
unended : (rules : Rules) (history : List Atom) (call : Call) (b : ℕ) → end_of (after rules history (call_of call)) b ≡ None
    → (Ends b call → ⊥) × (end_of history b ≡ None)
unended rules history (LoadMany ks) b none = (λ no. no, sym (loads_end_none rules history ks b) ∙ none)
unended rules history (Settle n os) b none = no_such_end b n Settled (end_of history b) none
unended rules history (Fail n fault) b none = no_such_end b n Failed (end_of history b) none
unended rules history call b none = (λ no. no, none)

-- a batch that a call may end has no end
no_end_yet : (answer : Answering) (history : List Atom) (call : Call) (b : ℕ) → MayBeMade answer history call → Ends b call
    → end_of history b ≡ None
no_end_yet answer history (Settle n os) b may same = ap (end_of history) (sym same) ∙ may.0.no_end
no_end_yet answer history (Fail n fault) b may same = ap (end_of history) (sym same) ∙ may.0.no_end
no_end_yet answer history call b may ends = absurd ends

-- ---- a whole history

-- a batch that an event ends has an end
abbrev EndsStand : List Event → Type 0
EndsStand events = (b j : ℕ) (e : Event) → slice_get events j ≡ Some e → Ends b e.call → end_of (atoms (past events)) b ≡ None → ⊥

stand_more : (s : Service) (es : List Event) (e : Event) → IsNext s (past es) e → EndsStand es → EndsStand (es ++ e ∷ [])
stand_more s es e next old b j x got ends none = by (get-snoc es e x j got)
  where
    traces : (Ends b e.call → ⊥) × (end_of (atoms (past es)) b ≡ None)
    traces = unended s.rules (atoms (past es)) e.call b (ap (λ h. end_of h b) (sym (atoms_next s es e next)) ∙ none)

    by : ((j < length es) × (slice_get es j ≡ Some x)) ⊎ ((j ≡ length es) × (x ≡ e)) → ⊥
    by (inl before) = old b j x before.1 ends traces.1
    by (inr now) = traces.0 (subst (λ (y : Event). Ends b y.call) now.1 ends)

once_more : (s : Service) (es : List Event) (e : Event) → IsNext s (past es) e → EndsStand es → EndOnce es → EndOnce (es ++ e ∷ [])
once_more s es e next stand old b j k x y first second ends also = by (get-snoc es e x j first) (get-snoc es e y k second)
  where
    -- an event before e doesn't end what e ends
    apart : (i : ℕ) (z t : Event) → slice_get es i ≡ Some z → Ends b z.call → t ≡ e → Ends b t.call → ⊥
    apart i z t got one is other =
        stand b i z got one (no_end_yet s.answer (atoms (past es)) e.call b next.made (subst (λ (w : Event). Ends b w.call) is other))

    by : ((j < length es) × (slice_get es j ≡ Some x)) ⊎ ((j ≡ length es) × (x ≡ e))
        → ((k < length es) × (slice_get es k ≡ Some y)) ⊎ ((k ≡ length es) × (y ≡ e)) → j ≡ k
    by (inl left) (inl right) = old b j k x y left.1 right.1 ends also
    by (inl left) (inr right) = absurd (apart j x y left.1 ends right.1 also)
    by (inr left) (inl right) = absurd (apart k y x right.1 also left.1 ends)
    by (inr left) (inr right) = left.0 ∙ sym right.0

pub end_once : (s : Service) (es : List Event) → IsLegal s es → EndOnce es
end_once s es legal = (by_events s (λ (xs : List Event). EndsStand xs × EndOnce xs) (stand_none, once_none) more es legal).1
  where
    stand_none : EndsStand []
    stand_none b j e got ends none = let bad : ◌≡◌ {A = Option Event} None (Some e) = got in cc

    once_none : EndOnce []
    once_none b j k e f first second ends also = absurd (let bad : ◌≡◌ {A = Option Event} None (Some e) = first in cc)

    more : (xs : List Event) (e : Event) → IsLegal s xs → IsNext s (past xs) e → EndsStand xs × EndOnce xs → EndsStand (xs ++ e ∷ []) × EndOnce (xs ++ e ∷ [])
    more xs e before next rest = (stand_more s xs e next rest.0, once_more s xs e next rest.0 rest.1)

-- In a history with no fail, the end of a batch gives each member its key's own outcome.
use Rattle.std.proofs.Common.{◌≡◌, ◌∙◌, sym, ap, ℕ, ◌<◌, ◌≤◌, ◌⊎◌, inl, inr, Bool, true, false, cond, List, [], ◌∷◌, ◌++◌, map, Option, Some, None}
use Rattle.std.proofs.Common.{refl}
use Rattle.std.proofs.lemmas.Bool.{cases_lt, eqb-true}
use Rattle.dl_values.specs.Key.{Key}
use Rattle.dl_desk.specs.History.{Atom, members, sent}
use Rattle.dl_desk.specs.Events.{call_atoms, atoms, Placed, newest, last_of, ends_batch, ends}
use Rattle.dl_desk.specs.Legal.{keys_of, MayBeMade, IsNext}
use Rattle.dl_desk.specs.Legal as desk
use Rattle.dl_values.specs.declared.outcome.Outcome.{Outcome}
use Rattle.dl_desk.proofs.Facts.{end_of-unsent}
use Rattle.dl_desk.proofs.LawEnds.{last-unended}
use Rattle.dl_desk.proofs.PastAtoms.{legal_atoms, ends_may_end}
use Rattle.dl_history.specs.History.{past, IsLegal}
use Rattle.dl_desk.specs.Service.{Service}
use Rattle.dl_desk.specs.declared.event.Event.{Event}
use Rattle.dl_desk.specs.declared.event.Call.{Call}
use Rattle.dl_desk.specs.declared.event.Call.TheVariants.{Settle, Fail}
use Rattle.dl_history.proofs.CellBatches.{members_stay}
use Rattle.dl_history.proofs.Pasts.{past-snoc, by_events}
use Rattle.dl_scope.specs.OwnAnswers.{AnswersOwn, IsNoFail, NoneFailed}
use Rattle.dl_scope.proofs.NoPrimes.{every_parts}

-- the settle of a batch that gives each member its key's own outcome
abbrev pub own_settle : (Key → Outcome) → List Atom → ℕ → Call
own_settle own history b = Settle b (map own (keys_of history b))

-- ---- the call that ends a batch

call_gives : (s : Service) (own : Key → Outcome) → AnswersOwn s own → (history : List Atom) (call : Call) (b : ℕ) → MayBeMade s.answer history call
    → IsNoFail call → ends_batch b call ≡ true → call ≡ own_settle own history b
call_gives s own answers history (Settle n os) b may none now =
    let same : b ≡ n = eqb-true b n now in
    let given : os ≡ map own (keys_of history n) = answers (keys_of history n) os may.1 in
    ap (λ (xs : List Outcome). Settle n xs) given ∙ ap (own_settle own history) (sym same)
call_gives s own answers history (Fail n fault) b may none now = absurd none
call_gives s own answers history call b may none now = absurd (let bad : false ≡ true = now in cc)

-- ---- the end of a batch

-- a batch that has ended is sent
last_sent : (s : Service) (past : List Event) (b : ℕ) (p : Placed) → desk.IsLegal s past → last_of (ends b) past ≡ Some p → b < sent (atoms past)
last_sent s past b p legal got = by (cases_lt b (sent (atoms past)))
  where
    by : (b < sent (atoms past)) ⊎ (sent (atoms past) ≤ b) → b < sent (atoms past)
    by (inl low) = low
    by (inr high) =
        let none : last_of (ends b) past ≡ None = last-unended past b (end_of-unsent s.rules (atoms past) (legal_atoms s past legal) b high) in
        let bad : ◌≡◌ {A = Option Placed} None (Some p) = sym none ∙ got in
        absurd (cc)

-- the event that ended a batch gave each member its key's own outcome
abbrev pub GiveOwn : (Key → Outcome) → List Event → Type 0
GiveOwn own es = (b : ℕ) (p : Placed) → last_of (ends b) (past es) ≡ Some p → p.event.call ≡ own_settle own (atoms (past es)) b

gives_none : (own : Key → Outcome) → GiveOwn own []
gives_none own b p got = absurd (let bad : ◌≡◌ {A = Option Placed} None (Some p) = got in cc)

gives_more : (s : Service) (own : Key → Outcome) → AnswersOwn s own → (es : List Event) (e : Event) → IsLegal s es → IsNext s (past es) e → IsNoFail e.call
    → GiveOwn own es → GiveOwn own (es ++ e ∷ [])
gives_more s own answers es e legal next none old b p got = rw (past-snoc es e) (by (ends b e) refl (rw (past-snoc es e) at got))
  where
    stays : b < sent (atoms (past es)) → own_settle own (atoms (past es)) b ≡ own_settle own (atoms (e ∷ past es)) b
    stays low =
        let same : members (atoms (e ∷ past es)) b ≡ members (atoms (past es)) b =
        members_stay s.rules (call_atoms e.call e.reply) (atoms (past es)) b (legal_atoms s (e ∷ past es) (next, legal)) low in
        ap (λ (ms : List (Key × ℕ)). Settle b (map own (map (λ (m : Key × ℕ). m.0) ms))) (sym same)

    by : (t : Bool) → ends b e ≡ t → cond t (Some (newest (past es) e)) (last_of (ends b) (past es)) ≡ Some p
        → p.event.call ≡ own_settle own (atoms (e ∷ past es)) b
    by true is f =
        let may = ends_may_end s (past es) e b next is in
        let same : newest (past es) e ≡ p = cc in
        let given : e.call ≡ own_settle own (atoms (past es)) b = call_gives s own answers (atoms (past es)) e.call b next.made none is in
        ap (λ (q : Placed). q.event.call) (sym same) ∙ (given ∙ stays may.is_sent)
    by false is f = old b p f ∙ stays (last_sent s (past es) b p legal f)

-- in a legal history with no fail, where the source answers each key with its own outcome
pub give_own : (s : Service) (own : Key → Outcome) → AnswersOwn s own → (es : List Event) → IsLegal s es → NoneFailed es → GiveOwn own es
give_own s own answers es legal none = by_events s (λ (xs : List Event). NoneFailed xs → GiveOwn own xs) (λ each. gives_none own) more es legal none
  where
    more : (xs : List Event) (e : Event) → IsLegal s xs → IsNext s (past xs) e → (NoneFailed xs → GiveOwn own xs) → NoneFailed (xs ++ e ∷ [])
        → GiveOwn own (xs ++ e ∷ [])
    more xs e before next rest each =
        let traces = every_parts (λ (x : Event). IsNoFail x.call) xs (e ∷ []) each in
        gives_more s own answers xs e before next traces.1.0 (rest traces.0)

-- How many jobs the dispatches of a legal history hand out: one for each batch that was sent.
use Rattle.std.proofs.Common.{◌≡◌, ◌∙◌, ap, refl, ℕ, zero, suc, ◌+◌, ◌-◌, ◌<◌, ◌≤◌, ◌⊎◌, inl, inr, List, [], ◌∷◌, ◌++◌, length, Option, IsSome}
use Rattle.std.proofs.Common.{subst, arith, length-append, true, false}
use Rattle.std.proofs.lemmas.Bool.{cases_lt}
use Rattle.dl_values.specs.Key.{Key}
use Rattle.dl_values.specs.Limits.{Rules}
use Rattle.dl_desk.specs.History.{Atom, begun, sent, load_reply, loaded, job, jobs_from}
use Rattle.dl_desk.specs.History as atom
use Rattle.dl_desk.specs.Events.{atoms}
use Rattle.dl_desk.specs.Calls.{after}
use Rattle.dl_desk.specs.declared.reply.End.{End}
use Rattle.dl_desk.proofs.Facts.{sent-le, end_of-unsent}
use Rattle.dl_desk.proofs.PastAtoms.{legal_atoms}
use Rattle.dl_desk.specs.Legal.{reply_to, call_of, IsNext}
use Rattle.dl_history.specs.History.{past, IsLegal, AllEnded}
use Rattle.dl_history.specs.Lists.{total}
use Rattle.dl_desk.specs.Service.{Service}
use Rattle.dl_desk.specs.declared.event.Event.{Event}
use Rattle.dl_desk.specs.declared.event.Call.{Call}
use Rattle.dl_desk.specs.declared.event.Call.TheVariants.{LoadMany, Dispatch}
use Rattle.dl_history.proofs.ListLemmas.{total-append}
use Rattle.dl_history.proofs.Pasts.{by_events, atoms_next}
use Rattle.dl_loader.specs.Dispatches.{dispatched, dispatched_by}
use Rattle.dl_scope.proofs.CallTotals.{long_each}

-- ---- one call

jobs_long : (history : List Atom) (b n : ℕ) → length (jobs_from history b n) ≡ n
jobs_long history b zero = refl
jobs_long history b (suc n) =
    let rest = jobs_long history b n in
    let one = length-append (jobs_from history b n) (job history (b + n) ∷ []) in
    omega (arith, rest, one)

loads_send_none : (rules : Rules) (history : List Atom) (ks : List Key) → sent (loaded rules history ks) ≡ sent history
loads_send_none rules history [] = refl
loads_send_none rules history (k ∷ ks) = loads_send_none rules (atom.Load k (load_reply rules history k) ∷ history) ks

-- a call sends as many batches more as its reply has jobs
pub call_sends : (rules : Rules) (history : List Atom) (call : Call)
    → sent history + length (dispatched_by call (reply_to rules history call)) ≡ sent (after rules history (call_of call))
call_sends rules history (LoadMany ks) = let same = loads_send_none rules history ks in omega (arith, same)
call_sends rules history Dispatch =
    let long = jobs_long history (sent history) (begun history - sent history) in
    let low = sent-le history in
    omega (arith, long, low)
call_sends rules history call = omega arith

-- ---- a whole history

abbrev jobs_told : List Event → ℕ
jobs_told events = total (λ e. length (dispatched_by e.call e.reply)) events

-- the jobs of all dispatches are as many as the batches that were sent
jobs_sent : (s : Service) (es : List Event) → IsLegal s es → jobs_told es ≡ sent (atoms (past es))
jobs_sent s es legal = by_events s (λ (xs : List Event). jobs_told xs ≡ sent (atoms (past xs))) refl more es legal
  where
    more : (xs : List Event) (e : Event) → IsLegal s xs → IsNext s (past xs) e → jobs_told xs ≡ sent (atoms (past xs))
        → jobs_told (xs ++ e ∷ []) ≡ sent (atoms (past (xs ++ e ∷ [])))
    more xs e before next rest =
        let all = total-append (λ (x : Event). length (dispatched_by x.call x.reply)) xs (e ∷ []) in
        let one = call_sends s.rules (atoms (past xs)) e.call in
        let reply = ap (λ r. length (dispatched_by e.call r)) next.reply in
        let after_it = ap sent (atoms_next s xs e next) in
        omega (arith, all, one, reply, after_it, rest)

-- where each batch has ended, each was sent
all_sent : (s : Service) (es : List Event) → IsLegal s es → AllEnded es → sent (atoms (past es)) ≡ begun (atoms (past es))
all_sent s es legal ended = by (cases_lt (sent history) (begun history))
  where
    history : List Atom
    history = atoms (past es)

    by : (sent history < begun history) ⊎ (begun history ≤ sent history) → sent history ≡ begun history
    by (inl more) =
        let none = end_of-unsent s.rules history (legal_atoms s (past es) legal) (sent history) (omega arith) in
        let bad : false ≡ true = subst (λ (o : Option End). IsSome o) none (ended (sent history) more) in
        absurd cc
    by (inr high) = let low = sent-le history in omega (arith, low)

-- in a legal history whose batches have ended, dispatches handed out as many jobs as there are batches
pub jobs_begun : (s : Service) (es : List Event) → IsLegal s es → AllEnded es → length (dispatched es) ≡ begun (atoms (past es))
jobs_begun s es legal ended =
    long_each (λ (e : Event). dispatched_by e.call e.reply) es ∙ (jobs_sent s es legal ∙ all_sent s es legal ended)

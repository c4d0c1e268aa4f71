-- In a history with no prime and no fail, each cell of a load ends with its key's own outcome.
use Rattle.std.proofs.Common.{◌≡◌, ◌∙◌, sym, ap, ℕ, suc, Bool, true, false, cond, List, [], ◌∷◌, map, Option, Some, None, slice_get, nat_eq, refl}
use Rattle.std.specs.Option.{option_and_then}
use Rattle.std.specs.List.{zip}
use Rattle.std.specs.Map.{lookup}
use Rattle.std.proofs.lemmas.Bool.{eqb-true}
use Rattle.dl_values.specs.Answering.{IsWithin, by_function}
use Rattle.dl_values.specs.Key.{Key}
use Rattle.dl_desk.specs.History.{members}
use Rattle.dl_desk.specs.Events.{atoms, Placed, last_of, primes, ends, cell_batch, outcome_given}
use Rattle.dl_values.specs.declared.outcome.Outcome.{Outcome}
use Rattle.dl_values.specs.declared.outcome.BatchAnswer.{BatchAnswer}
use Rattle.dl_values.specs.declared.outcome.BatchAnswer.TheVariants as answered
use Rattle.dl_desk.specs.declared.reply.LoadReply.{LoadReply}
use Rattle.dl_source.specs.Answer.{answer_of, first_break, outcomes_of, outcome_of, found, unless}
use Rattle.dl_source.specs.Tables.{Tables}
use Rattle.dl_history.specs.Entries.{cell_of_load}
use Rattle.dl_history.specs.History.{past, IsLegal, ending_of}
use Rattle.dl_desk.specs.Service.{Service}
use Rattle.dl_desk.specs.declared.event.Event.{Event}
use Rattle.dl_desk.specs.declared.event.Ending.{Ending}
use Rattle.dl_desk.specs.declared.event.Call.TheVariants.{LoadMany}
use Rattle.dl_desk.specs.declared.event.Reply.TheVariants.{Many}
use Rattle.dl_history.proofs.CellBatches.{member_cell, members-apart}
use Rattle.dl_history.proofs.PastEnds.{batched_unprimed}
use Rattle.dl_desk.proofs.PastAtoms.{legal_atoms}
use Rattle.dl_history.proofs.Outcomes.{shown_parts}
use Rattle.dl_scope.specs.OwnAnswers.{AnswersOwn, NonePrimed, NoneFailed}
use Rattle.dl_scope.proofs.LoadedCells.{LoadBegan}
use Rattle.dl_scope.proofs.OwnSettles.{own_settle, give_own}
use Rattle.dl_scope.proofs.NoPrimes.{loads_began}

-- ---- the outcome beside a cell

-- a member with the cell, whose key has the outcome
record IsBeside (own : Key → Outcome) (ms : List (Key × ℕ)) (c : ℕ) (o : Outcome) : Type 0 where
  place : ℕ
  member : Key × ℕ
  at : slice_get ms place ≡ Some member
  cell : member.1 ≡ c
  is : own member.0 ≡ o

-- what stands beside a cell is the own outcome of such a member's key
beside_own : (own : Key → Outcome) (c : ℕ) (o : Outcome) (ms : List (Key × ℕ))
    → lookup (nat_eq c) (zip (map (λ (m : Key × ℕ). m.1) ms) (map own (map (λ (m : Key × ℕ). m.0) ms))) ≡ Some o → IsBeside own ms c o
beside_own own c o [] got = absurd (let bad : ◌≡◌ {A = Option Outcome} None (Some o) = got in cc)
beside_own own c o (x ∷ ms) got = by (nat_eq c x.1) refl (beside_own own c o ms) got
  where
    by : (t : Bool) → nat_eq c x.1 ≡ t
        → (lookup (nat_eq c) (zip (map (λ (m : Key × ℕ). m.1) ms) (map own (map (λ (m : Key × ℕ). m.0) ms))) ≡ Some o → IsBeside own ms c o)
        → cond t (Some (own x.0)) (lookup (nat_eq c) (zip (map (λ (m : Key × ℕ). m.1) ms) (map own (map (λ (m : Key × ℕ). m.0) ms)))) ≡ Some o
        → IsBeside own (x ∷ ms) c o
    by true same older f =
        let two : ◌≡◌ {A = Option Outcome} (Some (own x.0)) (Some o) = f in
        let is_own : own x.0 ≡ o = cc in
        record { place = 0; member = x; at = refl; cell = sym (eqb-true c x.1 same); is = is_own }
    by false other older f =
        let h = older f in
        record { place = suc h.place; member = h.member; at = h.at; cell = h.cell; is = h.is }

-- ---- the outcome of a cell

-- a cell that a fresh load began ends with the own outcome of the load's key
began_own : (s : Service) (own : Key → Outcome) → AnswersOwn s own → (es : List Event) → IsLegal s es → NoneFailed es → (k : Key) (c : ℕ)
    → LoadBegan (atoms (past es)) k c → (x : Ending) → ending_of es c ≡ Some x → x.outcome ≡ own k
began_own s own answers es legal none k c began x shows =
    by (last_of (ends began.batch) (past es)) refl (rw (unprimed, batch) at ((shown_parts es c x shows).1))
  where
    batch : cell_batch (atoms (past es)) c ≡ Some began.batch
    batch = member_cell s.rules (atoms (past es)) began.batch began.place (k, c) (legal_atoms s (past es) legal) began.at

    unprimed : last_of (primes c) (past es) ≡ None
    unprimed = batched_unprimed s (past es) c began.batch legal batch

    member_own : IsBeside own (members (atoms (past es)) began.batch) c x.outcome → x.outcome ≡ own k
    member_own h =
        let place : h.place ≡ began.place =
        members-apart s.rules (atoms (past es)) began.batch h.place began.place h.member (k, c) (legal_atoms s (past es) legal) h.at began.at h.cell in
        let there : slice_get (members (atoms (past es)) began.batch) h.place ≡ Some (k, c) =
        ap (slice_get (members (atoms (past es)) began.batch)) place ∙ began.at in
        let two : ◌≡◌ {A = Option (Key × ℕ)} (Some h.member) (Some (k, c)) = sym h.at ∙ there in
        let same : h.member ≡ (k, c) = cc in
        sym h.is ∙ ap (λ (m : Key × ℕ). own m.0) same

    by : (o : Option Placed) → last_of (ends began.batch) (past es) ≡ o
        → option_and_then (λ (p : Placed). outcome_given (atoms (past es)) c p.event.call) o ≡ Some x.outcome → x.outcome ≡ own k
    by None is f = absurd (let bad : ◌≡◌ {A = Option Outcome} None (Some x.outcome) = f in cc)
    by (Some p) is f =
        let given : p.event.call ≡ own_settle own (atoms (past es)) began.batch = give_own s own answers es legal none began.batch p is in
        member_own (beside_own own c x.outcome (members (atoms (past es)) began.batch) (rw (given, batch) at f))

-- ---- the outcomes of loads

-- without primes and fails each outcome of a load is its key's own
pub own_outcome : (service : Service) (own : Key → Outcome) → AnswersOwn service own → (events : List Event) → IsLegal service events
    → NonePrimed events → NoneFailed events → (at caller : ℕ) (ks : List Key) (rs : List LoadReply)
    → slice_get events at ≡ Some (record { caller = caller; call = LoadMany ks; reply = Many rs })
    → (i : ℕ) (k : Key) (r : LoadReply) → slice_get ks i ≡ Some k → slice_get rs i ≡ Some r
    → (e : Ending) → ending_of events (cell_of_load r) ≡ Some e → e.outcome ≡ own k
own_outcome service own answers events legal unprimed unfailed at caller ks rs got i k r key reply e shows =
    let event : Event = record { caller = caller; call = LoadMany ks; reply = Many rs } in
    let began : LoadBegan (atoms (past events)) k (cell_of_load r) = loads_began service events legal unprimed at event got i k r key reply in
    began_own service own answers events legal unfailed k (cell_of_load r) began e shows

-- ---- tables

-- tables that answer have for each key what they list under it
pub tables_own : (service : Service) (tables : Tables) → IsWithin service.answer (by_function (answer_of tables))
    → AnswersOwn service (λ (k : Key). outcome_of (found tables k))
tables_own service tables by_tables keys outcomes is = by (first_break tables keys) (by_tables keys (answered.Each outcomes) is)
  where
    by : (broken : Option (List ℕ)) → unless broken (outcomes_of tables keys) ≡ answered.Each outcomes
        → outcomes ≡ map (λ (k : Key). outcome_of (found tables k)) keys
    by None e =
        let two : ◌≡◌ {A = BatchAnswer} (answered.Each (outcomes_of tables keys)) (answered.Each outcomes) = e in
        let same : outcomes_of tables keys ≡ outcomes = cc in
        sym same
    by (Some text) e = absurd (let bad : ◌≡◌ {A = BatchAnswer} (answered.Break text) (answered.Each outcomes) = e in cc)

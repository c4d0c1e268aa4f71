-- Calls that are prepared: a prime, and the end of a batch.
use Rattle.std.proofs.Common.{◌≡◌, ◌∙◌, sym, ap, ℕ, List, length, None, refl, subst, zero, suc, ◌<◌, Bool, true, false, cond, [], ◌∷◌, map, Option}
use Rattle.std.proofs.Common.{Some, IsSome, slice_get, option_map, is_some, nat_le, Decides, arith, Result, Ok, Err}
use Rattle.std.specs.Borrow.{Bor}
use Rattle.dl_values.specs.Answering.{Answering, IsFor, MayAnswer}
use Rattle.dl_values.specs.Key.{Key, key_eq}
use Rattle.dl_desk.specs.History.{Atom, prime_reply, cells, begun, sent, end_of, members, MayEnd}
use Rattle.dl_desk.specs.Calls.{refusal, unfit}
use Rattle.dl_desk.specs.declared.call.DeskCall.TheVariants as asked
use Rattle.dl_desk.specs.BatchBook.{BatchBook, StandsFor}
use Rattle.dl_values.specs.declared.outcome.Outcome.{Outcome}
use Rattle.dl_desk.specs.declared.reply.DeskPrime.{DeskPrime}
use Rattle.dl_desk.specs.declared.event.Call.{Call}
use Rattle.dl_values.specs.declared.outcome.BatchAnswer.{BatchAnswer}
use Rattle.dl_loader.specs.declared.dues.Due.{Due}
use Rattle.dl_loader.specs.Inside.Dues.{AreDue, end_refusal, outcome_by}
use Rattle.dl_loader.specs.Inside.Preparation.{IsPrepared, cell_primed, ended_count, cells_ended}
use Rattle.std.proofs.lemmas.List.{length-map}
use Rattle.dl_desk.specs.declared.event.Call.TheVariants.{Prime, Settle, Fail}
use Rattle.dl_desk.specs.Calls.{primed}
use Rattle.dl_desk.specs.Legal.{keys_of, call_of, reply_to, IsFault, MayBeMade}
use Rattle.std.specs.Option.{option_or}
use Rattle.std.proofs.lemmas.Bool.{leb-false}
use Rattle.std.proofs.lemmas.Slice.Eq.{slice_eq-Decides}
use Rattle.dl_values.specs.Limits.{Rules}
use Rattle.dl_desk.specs.declared.fault.DeskFault.{DeskFault}
use Rattle.dl_desk.specs.declared.reply.End.{End}
use Rattle.dl_values.proofs.KeyLemmas.{key_eq-same, key_eq-refl}
use Rattle.dl_values.specs.declared.outcome.BatchAnswer.TheVariants.{Each, Break}
use Rattle.dl_desk.specs.declared.event.Reply.TheVariants.{Done}
use Rattle.dl_history.specs.declared.fault.CallFault.{CallFault}
use Rattle.dl_history.specs.declared.fault.CallFault.TheVariants.{WrongKeys}
use Rattle.dl_loader.specs.Asks.{end_by, fault_of}
use Rattle.dl_loader.specs.Inside.EventCalls.{Brings, answer_len, call_ended, ended_len, job_ended}
use Rattle.dl_loader.specs.declared.ask.GiveUp.{GiveUp}
use Rattle.dl_loader.specs.declared.ask.GiveUp.TheVariants.{Memory, Unsent}
use Rattle.dl_loader.specs.Refusals.{same_keys}
use Rattle.dl_history.specs.Faults.{call_fault}
use Rattle.dl_desk.specs.declared.reply.DeskPrime.TheVariants as prime
use Rattle.dl_desk.specs.declared.fault.DeskFault.TheVariants as desk_fault

-- ---- a prime

prime_each : (dues : List Due) (r : DeskPrime) → length dues ≡ length (cell_primed r) → length dues ≡ ended_count None (primed r)
prime_each dues (prime.Primed c) same = same
prime_each dues prime.Kept same = same

-- a prime is prepared where the desk has accepted it and replies so
pub prime_prepared : {desk : BatchBook} {call : Call} {at : ℕ} {dues : List Due} {brings : Answering → Type 0} (k : Key) (o : Outcome)
    (r : DeskPrime) → ((h : List Atom) → StandsFor desk h → r ≡ prime_reply h k) → ((h : List Atom) → StandsFor desk h → refusal desk.rules h (asked.Prime k) ≡ None)
    → call ≡ Prime k o → AreDue call at (cell_primed r) dues → IsPrepared desk (record { call = Prime k o; job = None; brings = brings })
    (record { at = at; reply = primed r; dues = dues })
prime_prepared {desk} {call} {at} {dues} k o r told accepted is due = record {
  accepted = λ h stands. rw (accepted h stands) refl;
  replies = λ h stands. ap primed (told h stands);
  may = λ answer brings h stands. tt;
  gives = λ h stands. rw (← told h stands) (rw is at due);
  each = prime_each dues r (sym (length-map dues (λ (d : Due). d.cell)) ∙ ap length due.cells_are);
}

-- ---- when an end is refused

none_both : (x : Option DeskFault) (y : Option CallFault) → option_or (option_map call_fault x) y ≡ None → (x ≡ None) × (y ≡ None)
none_both None y none = (refl, none)
none_both (Some fault) y none = absurd (let bad : ◌≡◌ {A = Option CallFault} (Some (call_fault fault)) None = none in cc)

unfit_at : (b begun sent : ℕ) (o : Option End) (t u : Bool) → nat_le begun b ≡ t → nat_le sent b ≡ u
    → cond t (Some desk_fault.NoBatch) (cond u (Some desk_fault.NotSent) (cond (is_some o) (Some desk_fault.SettledBefore) None)) ≡ None
    → (b < sent) × (o ≡ None)
unfit_at b begun sent o true u x y none = absurd (let bad : ◌≡◌ {A = Option DeskFault} (Some desk_fault.NoBatch) None = none in cc)
unfit_at b begun sent o false true x y none = absurd (let bad : ◌≡◌ {A = Option DeskFault} (Some desk_fault.NotSent) None = none in cc)
unfit_at b begun sent (Some e) false false x y none = absurd (let bad : ◌≡◌ {A = Option DeskFault} (Some desk_fault.SettledBefore) None = none in cc)
unfit_at b begun sent None false false x y none = (leb-false sent b y, refl)

same_at : (t : Bool) → cond t None (Some WrongKeys) ≡ None → t ≡ true
same_at true none = refl
same_at false none = absurd (let bad : ◌≡◌ {A = Option CallFault} (Some WrongKeys) None = none in cc)

key_decides : (a b : Key) → Decides (key_eq a b) (a ≡ b)
key_decides a b = (key_eq-same a b, λ same. rw same (key_eq-refl b))

-- lists with the same keys are one list
keys_same : (ks js : List Key) → same_keys ks js ≡ true → ks ≡ js
keys_same ks js same = (slice_eq-Decides key_decides ks js (same_keys ks js) refl).0 same

-- an end that is not refused is of a batch that may end, by its keys
may_end : (history : List Atom) (b : ℕ) (ks : List Key) → end_refusal history b ks ≡ None → MayEnd history b
may_end history b ks none =
    let both = none_both (unfit history b) (cond (same_keys ks (keys_of history b)) None (Some WrongKeys)) none in
    let fit = unfit_at b (begun history) (sent history) (end_of history b) (nat_le (begun history) b) (nat_le (sent history) b) refl refl both.0 in
    record { is_sent = fit.0; no_end = fit.1 }

own_keys : (history : List Atom) (b : ℕ) (ks : List Key) → end_refusal history b ks ≡ None → ks ≡ keys_of history b
own_keys history b ks none =
    let both = none_both (unfit history b) (cond (same_keys ks (keys_of history b)) None (Some WrongKeys)) none in
    keys_same ks (keys_of history b) (same_at (same_keys ks (keys_of history b)) both.1)

-- ---- what an end brings

some_inside : {X : Type 0} (xs : List X) (i : ℕ) → i < length xs → IsSome (slice_get xs i)
some_inside [] i low = absurd (omega arith)
some_inside (x ∷ xs) zero low = refl
some_inside (x ∷ xs) (suc i) low = some_inside xs i (omega arith)

-- as many outcomes bring each cell one
settle_brings : (b : ℕ) (os : List Outcome) (cs : List ℕ) → length os ≡ length cs → (i : ℕ) → i < length cs → IsSome (outcome_by (Settle b os) i)
settle_brings b os cs same i low = some_inside os i (omega arith)

-- an answer brings each cell of its keys an outcome
answer_brings : (b : ℕ) (a : BatchAnswer) (ks : List Key) (cs : List ℕ) → IsFor ks a → length cs ≡ length ks → (i : ℕ) → i < length cs
    → IsSome (outcome_by (end_by b a) i)
answer_brings b (Each os) ks cs fits same = settle_brings b os cs (fits ∙ sym same)
answer_brings b (Break text) ks cs fits same = λ i low. refl

answer_fits : (ks : List Key) (a : BatchAnswer) → answer_len (length ks) a ≡ length ks → IsFor ks a
answer_fits ks (Each os) same = same
answer_fits ks (Break text) same = tt

pub fits_answer : (ks : List Key) (a : BatchAnswer) → IsFor ks a → answer_len (length ks) a ≡ length ks
fits_answer ks (Each os) fits = fits
fits_answer ks (Break text) fits = refl

-- so does a call that ends a batch
pub end_brings : (b : ℕ) (ks : List Key) (e : Result (Bor BatchAnswer) GiveUp) (cs : List ℕ) → ended_len (length ks) e ≡ length ks → length cs ≡ length ks
    → (i : ℕ) → i < length cs → IsSome (outcome_by (call_ended b e) i)
end_brings b ks (Ok a) cs fits same = answer_brings b a.now ks cs (answer_fits ks a.now fits) same
end_brings b ks (Err give_up) cs fits same = λ i low. refl

-- a batch that may end may end by what the source may answer to its keys
made_by : (answer : Answering) (history : List Atom) (b : ℕ) (a : BatchAnswer) → MayEnd history b → MayAnswer answer (keys_of history b) a
    → MayBeMade answer history (end_by b a)
made_by answer history b (Each os) may asked = (may, asked)
made_by answer history b (Break text) may asked = (may, asked)

-- ---- the refusal of an end

refusal_by : (rules : Rules) (b : ℕ) (a : BatchAnswer) (h : List Atom) → refusal rules h (call_of (end_by b a)) ≡ unfit h b
refusal_by rules b (Each os) h = refl
refusal_by rules b (Break text) h = refl

-- an end that is not refused is of a batch which may end, and what may be answered to these keys may be answered to the batch's
answered_end : (answer : Answering) (a : BatchAnswer) (history : List Atom) (b : ℕ) (ks : List Key) → end_refusal history b ks ≡ None
    → MayAnswer answer ks a → MayEnd history b × MayAnswer answer (keys_of history b) a
answered_end answer a history b ks none asked =
    (may_end history b ks none, subst (λ (js : List Key). MayAnswer answer js a) (own_keys history b ks none) asked)

-- ---- an end that is prepared

done_by : (rules : Rules) (h : List Atom) (b : ℕ) (a : BatchAnswer) → Done ≡ reply_to rules h (end_by b a)
done_by rules h b (Each os) = refl
done_by rules h b (Break text) = refl

ended_by_answer : (h : List Atom) (b : ℕ) (a : BatchAnswer) → cells_ended h (end_by b a) ≡ map (λ m. m.1) (members h b)
ended_by_answer h b (Each os) = refl
ended_by_answer h b (Break text) = refl

given_up : (answer : Answering) (ks : List Key) (give_up : GiveUp) → IsFault answer ks (fault_of give_up)
given_up answer ks Memory = tt
given_up answer ks Unsent = tt

-- an end is prepared if its batch may end and has these keys
pub end_prepared : {desk : BatchBook} {cs : List ℕ} {call : Call} {at : ℕ} {dues : List Due} (b : ℕ) (ks : List Key) (e : Result (Bor BatchAnswer) GiveUp)
    → ((h : List Atom) → StandsFor desk h → end_refusal h b ks ≡ None)
    → ((h : List Atom) → StandsFor desk h → cs ≡ map (λ m. m.1) (members h b)) → length cs ≡ length ks → call ≡ call_ended b e
    → AreDue call at cs dues → IsPrepared desk (record { call = call_ended b e; job = Some (job_ended b ks); brings = Brings ks e })
    (record { at = at; reply = Done; dues = dues })
end_prepared {desk} {cs} {call} {at} {dues} b ks (Ok a) accepted cells each is due = record {
  accepted = λ h stands. rw (refusal_by desk.rules b a.now h) (accepted h stands);
  replies = λ h stands. done_by desk.rules h b a.now;
  may = λ answer brings h stands. let end = answered_end answer a.now h b ks (accepted h stands) brings in made_by answer h b a.now end.0 end.1;
  gives = λ h stands. subst (λ (ns : List ℕ). AreDue (end_by b a.now) at ns dues) (cells h stands ∙ sym (ended_by_answer h b a.now)) (rw is at due);
  each = sym (length-map dues (λ (d : Due). d.cell)) ∙ (ap length due.cells_are ∙ each);
}
end_prepared {desk} {cs} {call} {at} {dues} b ks (Err give_up) accepted cells each is due = record {
  accepted = λ h stands. accepted h stands;
  replies = λ h stands. refl;
  may = λ answer brings h stands. (may_end h b ks (accepted h stands), given_up answer (keys_of h b) give_up);
  gives = λ h stands. subst (λ (ns : List ℕ). AreDue (Fail b (fault_of give_up)) at ns dues) (cells h stands) (rw is at due);
  each = sym (length-map dues (λ (d : Due). d.cell)) ∙ (ap length due.cells_are ∙ each);
}

-- How many events of a legal history end a batch: one for each batch, where all have ended.
use Rattle.std.proofs.Common.{◌≡◌, ◌∙◌, sym, ap, refl, ℕ, zero, suc, ◌+◌, ◌<◌, ◌≤◌, ◌⊎◌, inl, inr, Bool, true, false, cond}
use Rattle.std.proofs.Common.{List, [], ◌∷◌, ◌++◌, Option, Some, None, IsSome}
use Rattle.std.proofs.Common.{is_some, nat_eq, nat_lt, arith}
use Rattle.std.proofs.lemmas.Bool.{cases_eq}
use Rattle.std.proofs.lemmas.Bool.Decides.{nat_tests}
use Rattle.dl_values.specs.Limits.{Rules}
use Rattle.dl_values.specs.Answering.{Answering}
use Rattle.dl_desk.specs.History.{Atom, begun, sent, end_of}
use Rattle.dl_desk.specs.History as atom
use Rattle.dl_desk.specs.Events.{atoms}
use Rattle.dl_desk.specs.Calls.{after}
use Rattle.dl_desk.specs.declared.reply.End.{End}
use Rattle.dl_desk.specs.declared.reply.End.TheVariants.{Settled, Failed}
use Rattle.dl_desk.proofs.Facts.{sent-le}
use Rattle.dl_desk.specs.Legal.{call_of, MayBeMade, IsNext}
use Rattle.dl_history.specs.History.{past, IsLegal, AllEnded}
use Rattle.dl_history.specs.Lists.{one_if, total}
use Rattle.dl_desk.specs.Service.{Service}
use Rattle.dl_desk.specs.declared.event.Event.{Event}
use Rattle.dl_desk.specs.declared.event.Call.{Call}
use Rattle.dl_desk.specs.declared.event.Call.TheVariants.{LoadMany, Settle, Fail}
use Rattle.dl_history.proofs.ListLemmas.{total-append}
use Rattle.dl_history.proofs.Pasts.{by_events, atoms_next}
use Rattle.dl_scope.proofs.OneEnd.{loads_end_none}
use Rattle.dl_scope.proofs.SentCounts.{call_sends}

-- one for a call that ends a batch
abbrev pub ends_one : Call → ℕ
ends_one (Settle b os) = 1
ends_one (Fail b fault) = 1
ends_one call = 0

-- how many of the first batches have ended
abbrev ended_below : List Atom → ℕ → ℕ
ended_below history zero = 0
ended_below history (suc n) = ended_below history n + one_if (is_some (end_of history n))

-- ---- one call

none_below : (n : ℕ) → ended_below [] n ≡ 0
none_below zero = refl
none_below (suc n) = let rest = none_below n in omega (arith, rest)

same_below : (history new : List Atom) (n : ℕ) → ((b : ℕ) → end_of new b ≡ end_of history b) → ended_below new n ≡ ended_below history n
same_below history new zero same = refl
same_below history new (suc n) same =
    let rest = same_below history new n same in
    let one = ap (λ (o : Option End). one_if (is_some o)) (same n) in
    omega (arith, rest, one)

-- one batch more has ended
more_below : (history new : List Atom) (b : ℕ) (e : End) (n : ℕ) → end_of history b ≡ None
    → ((k : ℕ) → end_of new k ≡ cond (nat_eq k b) (Some e) (end_of history k)) → ended_below new n ≡ ended_below history n + one_if (nat_lt b n)
more_below history new b e zero none is = let past : nat_lt b 0 ≡ false = grind (arith, nat_tests) in rw past refl
more_below history new b e (suc n) none is = by (more_below history new b e n none is) (cases_eq n b)
  where
    by : ended_below new n ≡ ended_below history n + one_if (nat_lt b n) → (n ≡ b) ⊎ (n ≡ b → ⊥)
        → ended_below new (suc n) ≡ ended_below history (suc n) + one_if (nat_lt b (suc n))
    by rest (inl same) =
        let here : nat_eq n b ≡ true = grind (arith, nat_tests) in
        let low : nat_lt b (suc n) ≡ true = grind (arith, nat_tests) in
        let past : nat_lt b n ≡ false = grind (arith, nat_tests) in
        let new_one : one_if (is_some (end_of new n)) ≡ 1 =
        ap (λ (o : Option End). one_if (is_some o)) (is n) ∙ ap (λ (t : Bool). one_if (is_some (cond t (Some e) (end_of history n)))) here in
        let old_none : one_if (is_some (end_of history n)) ≡ 0 =
        ap (λ (k : ℕ). one_if (is_some (end_of history k))) same ∙ ap (λ (o : Option End). one_if (is_some o)) none in
        let one = ap one_if low in
        let zero_past = ap one_if past in
        omega (arith, rest, new_one, old_none, one, zero_past)
    by rest (inr other) =
        let here : nat_eq n b ≡ false = grind (arith, nat_tests) in
        let same_one : one_if (is_some (end_of new n)) ≡ one_if (is_some (end_of history n)) =
        ap (λ (o : Option End). one_if (is_some o)) (is n) ∙ ap (λ (t : Bool). one_if (is_some (cond t (Some e) (end_of history n)))) here in
        let tests : nat_lt b (suc n) ≡ nat_lt b n = grind (arith, nat_tests) in
        let one = ap one_if tests in
        omega (arith, rest, same_one, one)

sent_low : (b n : ℕ) → b < n → one_if (nat_lt b n) ≡ 1
sent_low b n low = let yes : nat_lt b n ≡ true = grind (arith, nat_tests) in ap one_if yes

-- a call that may be made ends one batch more, or none
call_ends : (answer : Answering) (rules : Rules) (history : List Atom) (call : Call) (n : ℕ) → MayBeMade answer history call → sent history ≤ n
    → ended_below history n + ends_one call ≡ ended_below (after rules history (call_of call)) n
call_ends answer rules history (LoadMany ks) n may low =
    let same = same_below history (after rules history (call_of (LoadMany ks))) n (loads_end_none rules history ks) in
    omega (arith, same)
call_ends answer rules history (Settle b os) n may low =
    let one = more_below history (atom.Settle b ∷ history) b Settled n may.0.no_end (λ k. refl) in
    let is_sent = may.0.is_sent in
    let here = sent_low b n (omega (arith, is_sent, low)) in
    omega (arith, one, here)
call_ends answer rules history (Fail b fault) n may low =
    let one = more_below history (atom.Fail b ∷ history) b Failed n may.0.no_end (λ k. refl) in
    let is_sent = may.0.is_sent in
    let here = sent_low b n (omega (arith, is_sent, low)) in
    omega (arith, one, here)
call_ends answer rules history call n may low =
    let same = same_below history (after rules history (call_of call)) n (λ b. refl) in omega (arith, same)

-- ---- a whole history

abbrev ends_told : List Event → ℕ
ends_told events = total (λ e. ends_one e.call) events

-- the events end as many of the first batches as have ended, where these are all that were sent
abbrev EndsCounted : List Event → Type 0
EndsCounted events = (n : ℕ) → sent (atoms (past events)) ≤ n → ends_told events ≡ ended_below (atoms (past events)) n

ends_counted : (s : Service) (es : List Event) → IsLegal s es → EndsCounted es
ends_counted s es legal = by_events s EndsCounted (λ n low. sym (none_below n)) more es legal
  where
    more : (xs : List Event) (e : Event) → IsLegal s xs → IsNext s (past xs) e → EndsCounted xs → EndsCounted (xs ++ e ∷ [])
    more xs e before next rest n low =
        let history = atoms (past xs) in
        let all = total-append (λ (x : Event). ends_one x.call) xs (e ∷ []) in
        let sends = call_sends s.rules history e.call in
        let sent_after = ap sent (atoms_next s xs e next) in
        let fits : sent history ≤ n = omega (arith, low, sends, sent_after) in
        let so_far = rest n fits in
        let one = call_ends s.answer s.rules history e.call n next.made fits in
        let below = ap (λ (h : List Atom). ended_below h n) (atoms_next s xs e next) in
        omega (arith, all, so_far, one, below)

whole_below : (history : List Atom) (n : ℕ) → ((b : ℕ) → b < n → IsSome (end_of history b)) → ended_below history n ≡ n
whole_below history zero each = refl
whole_below history (suc n) each =
    let rest = whole_below history n (λ b low. each b (omega (arith, low))) in
    let one = ap one_if (each n (omega arith)) in
    omega (arith, rest, one)

-- in a legal history whose batches have ended, as many events end one as there are batches
pub ends_begun : (s : Service) (es : List Event) → IsLegal s es → AllEnded es → total (λ e. ends_one e.call) es ≡ begun (atoms (past es))
ends_begun s es legal ended =
    ends_counted s es legal (begun (atoms (past es))) (sent-le (atoms (past es))) ∙ whole_below (atoms (past es)) (begun (atoms (past es))) ended

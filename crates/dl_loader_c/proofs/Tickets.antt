-- The tickets of several loads.
use Rattle.std.proofs.Common.{◌≡◌, ◌∙◌, ap, refl, ℕ, zero, suc, ◌+◌, ◌-◌, ◌<◌, ◌≤◌, List, [], ◌∷◌, ◌++◌, length, get_or, set, take, Option, Some, None, IfSome, slice_get, arith}
use Rattle.std.proofs.lemmas.List.{take_more}
use Rattle.dl_values.specs.Key.{Key}
use Rattle.dl_desk.specs.declared.event.Call.TheVariants.{LoadMany}
use Rattle.dl_desk.specs.declared.event.Reply.TheVariants.{Many}
use Rattle.dl_desk.specs.declared.reply.LoadReply.{LoadReply}
use Rattle.dl_history.specs.Pass.{Trace}
use Rattle.dl_loader.specs.SerialLoader.{Serial, IsMade}
use Rattle.dl_loader.proofs.NewTickets.{tickets_last}
use Rattle.dl_loader_c.specs.Answers.{ticket_as, tickets_as}

-- ---- as they are written

pub take_put : {X : Type 0} (ys : List X) (i k : ℕ) (x : X) → k ≡ i + 1 → i < length ys → take k (set ys i x) ≡ take i ys ++ x ∷ []
take_put [] i k x next low = absurd (omega arith)
take_put (y ∷ ys) i zero x next low = absurd (omega arith)
take_put (y ∷ ys) zero (suc k) x next low = let none : k ≡ 0 = omega arith in rw none refl
take_put (y ∷ ys) (suc i) (suc k) x next low = ap (λ zs. y ∷ zs) (take_put ys i k x (omega arith) (omega arith))

tickets_end : (first : ℕ) (rs : List LoadReply) (r : LoadReply) → tickets_as first (rs ++ r ∷ []) ≡ tickets_as first rs ++ ticket_as (first + length rs) r ∷ []
tickets_end first [] r = let at : first ≡ first + 0 = omega arith in ap (λ n. ticket_as n r ∷ []) at
tickets_end first (s ∷ rs) r =
    let at : first + 1 + length rs ≡ first + length (s ∷ rs) = omega arith in
    ap (λ ts. ticket_as first s ∷ ts) (tickets_end (first + 1) rs r ∙ ap (λ n. tickets_as (first + 1) rs ++ ticket_as n r ∷ []) at)

length_take : (rs : List LoadReply) (i : ℕ) → i < length rs → length (take i rs) ≡ i
length_take [] i low = absurd (omega arith)
length_take (r ∷ rs) zero low = refl
length_take (r ∷ rs) (suc i) low = ap suc (length_take rs i (omega arith))

pub tickets_more : (first : ℕ) (rs : List LoadReply) (i : ℕ) (d : LoadReply) → i < length rs
    → tickets_as first (take (i + 1) rs) ≡ tickets_as first (take i rs) ++ ticket_as (first + i) (get_or rs i d) ∷ []
tickets_more first rs i d low =
    ap (tickets_as first) (take_more rs i d low)
    ∙ (tickets_end first (take i rs) (get_or rs i d)
    ∙ ap (λ n. tickets_as first (take i rs) ++ ticket_as (first + n) (get_or rs i d) ∷ []) (length_take rs i low))

-- ---- as a caller has them

get_put : (ps : List Trace) (n : ℕ) (p q : Trace) → slice_get ps n ≡ Some p → slice_get (set ps n q) n ≡ Some q
get_put [] n p q at = absurd (let bad : ◌≡◌ {A = Option Trace} None (Some p) = at in cc)
get_put (x ∷ ps) zero p q at = refl
get_put (x ∷ ps) (suc n) p q at = get_put ps n p q at

-- so many tickets has the caller after several loads
pub tickets_after : {caller : ℕ} {ks : List Key} {rs : List LoadReply} {old new : Serial} (n : ℕ) → IsMade caller (LoadMany ks) (Many rs) old new
    → IfSome (slice_get new.traces caller) (λ p. n ≡ length p.tickets)
    → (length rs ≤ n) × IfSome (slice_get old.traces caller) (λ p. n - length rs ≡ length p.tickets)
tickets_after {caller} {ks} {rs} {old} {new} n made has =
    let at = ap (λ (ps : List Trace). slice_get ps caller) made.others ∙ get_put old.traces caller made.before made.after made.of_caller in
    let now : n ≡ length made.after.tickets = rw at at has in
    let more = tickets_last old.book new.book made.before made.after ks rs made.made in
    let before : n - length rs ≡ length made.before.tickets = omega (arith, now, more) in
    (omega (arith, now, more), rw made.of_caller before)

-- Where each batch has ended, each cell that was begun has an end and shows it.
use Rattle.std.proofs.Common.{◌≡◌, ◌∙◌, sym, ap, subst, ℕ, ◌<◌, ◌≤◌, ◌⊎◌, inl, inr, Bool, true, false, cond, ◌||◌, List, [], ◌∷◌, Option, Some, None, IsSome, nat_eq, refl}
use Rattle.std.proofs.Common.{arith}
use Rattle.std.specs.Option.{option_or}
use Rattle.std.proofs.lemmas.Bool.{cases_lt, eq-eqb, ltb-true}
use Rattle.dl_values.specs.Key.{Key}
use Rattle.dl_values.specs.Limits.{Rules}
use Rattle.dl_desk.specs.History.{Atom, Begun, begins, cells, is_number, batch_of, is_named, begun, room, held, load_reply, load_reply_at, prime_reply_at}
use Rattle.dl_desk.specs.History.{loaded, end_of}
use Rattle.dl_desk.specs.History as atom
use Rattle.dl_desk.specs.Events.{atoms, Placed, newest, last_of, begins_primed, primes, ends_batch, ends, batch_at, cell_batch, ending, ended}
use Rattle.dl_desk.specs.Calls.{after}
use Rattle.dl_desk.specs.Calls.{primed}
use Rattle.dl_desk.specs.Legal.{reply_to, call_of, IsNext}
use Rattle.dl_desk.specs.Legal as desk
use Rattle.dl_desk.specs.Service.{Service, AnswersEach}
use Rattle.dl_desk.specs.declared.event.Event.{Event}
use Rattle.dl_desk.specs.declared.event.Call.{Call}
use Rattle.dl_desk.specs.declared.event.Call.TheVariants.{Load, LoadMany, Prime, Settle, Fail}
use Rattle.dl_desk.specs.declared.reply.End.{End}
use Rattle.dl_desk.specs.declared.reply.End.TheVariants.{Settled, Failed}
use Rattle.dl_desk.proofs.Facts.{named}
use Rattle.dl_desk.proofs.LawEnds.{batch_kept, batch_stays}
use Rattle.dl_desk.proofs.PastAtoms.{legal_atoms, atoms_next}
use Rattle.dl_history.specs.History.{past, IsLegal, ending_of, AllEnded}
use Rattle.dl_history.proofs.Outcomes.{has_outcome}

-- ---- how a cell was begun

-- by a load, in a batch
abbrev IsBatched : List Atom → ℕ → Type 0
IsBatched history c = (b : ℕ) × (cell_batch history c ≡ Some b)

load_begins : (rules : Rules) (history : List Atom) (k : Key) (c : ℕ) (o : Option ℕ) → cells history ≤ c
    → c < cells (atom.Load k (load_reply_at rules history k o) ∷ history) → IsBatched (atom.Load k (load_reply_at rules history k o) ∷ history) c
load_begins rules history k c None high low =
    let same : c ≡ cells history = omega arith in
    (room rules history k, rw (eq-eqb c (cells history) same) refl)
load_begins rules history k c (Some d) high low = absurd (omega arith)

load_le : (rules : Rules) (history : List Atom) (k : Key) (o : Option ℕ) → cells history ≤ cells (atom.Load k (load_reply_at rules history k o) ∷ history)
load_le rules history k None = omega arith
load_le rules history k (Some d) = omega arith

-- loads leave the batch of each cell that was begun
loads_keep : (rules : Rules) (history : List Atom) (ks : List Key) (c : ℕ) → c < cells history
    → cell_batch (loaded rules history ks) c ≡ cell_batch history c
loads_keep rules history [] c low = refl
loads_keep rules history (k ∷ ks) c low =
    let a = atom.Load k (load_reply rules history k) in
    let more = load_le rules history k (held history k) in
    let still : c < cells (a ∷ history) = omega arith in
    loads_keep rules (a ∷ history) ks c still ∙ batch_kept rules history a c (begins a) refl refl low

loads_begin : (rules : Rules) (history : List Atom) (ks : List Key) (c : ℕ) → cells history ≤ c → c < cells (loaded rules history ks)
    → IsBatched (loaded rules history ks) c
loads_begin rules history [] c high low = absurd (omega arith)
loads_begin rules history (k ∷ ks) c high low = by (cases_lt c (cells now)) (loads_begin rules now ks c)
  where
    now : List Atom
    now = atom.Load k (load_reply rules history k) ∷ history

    by : (c < cells now) ⊎ (cells now ≤ c) → (cells now ≤ c → c < cells (loaded rules now ks) → IsBatched (loaded rules now ks) c)
        → IsBatched (loaded rules now ks) c
    by (inl l) rest = let here = load_begins rules history k c (held history k) high l in (here.0, loads_keep rules now ks c l ∙ here.1)
    by (inr h) rest = rest h low

prime_begins : (history : List Atom) (k : Key) (c : ℕ) (o : Option ℕ) → cells history ≤ c → c < cells (atom.Prime k (prime_reply_at history o) ∷ history)
    → begins_primed c (primed (prime_reply_at history o)) ≡ true
prime_begins history k c None high low = eq-eqb c (cells history) (omega arith)
prime_begins history k c (Some d) high low = absurd (omega arith)

call_begins : (rules : Rules) (history : List Atom) (call : Call) (c : ℕ) → cells history ≤ c → c < cells (after rules history (call_of call))
    → IsBatched (after rules history (call_of call)) c ⊎ (begins_primed c (reply_to rules history call) ≡ true)
call_begins rules history (Load k) c high low = inl (loads_begin rules history (k ∷ []) c high low)
call_begins rules history (LoadMany ks) c high low = inl (loads_begin rules history ks c high low)
call_begins rules history (Prime k o) c high low = inr (prime_begins history k c (held history k) high low)
call_begins rules history call c high low = absurd (omega arith)

-- a cell that was begun has a batch, or a prime began it
abbrev IsBegun : List Event → ℕ → Type 0
IsBegun past c = IsBatched (atoms past) c ⊎ ((p : Placed) × (last_of (primes c) past ≡ Some p))

begun_more : (s : Service) (e : Event) (before : List Event) (c : ℕ) → desk.IsLegal s (e ∷ before) → c < cells (atoms before) → IsBegun before c
    → IsBegun (e ∷ before) c
begun_more s e before c legal low (inl batched) = inl (batched.0, batch_stays s e before c legal low ∙ batched.1)
begun_more s e before c legal low (inr primed) = inr (by (primes c e))
  where
    by : (t : Bool) → (p : Placed) × (cond t (Some (newest before e)) (last_of (primes c) before) ≡ Some p)
    by true = (newest before e, refl)
    by false = primed

begun_now : (s : Service) (e : Event) (before : List Event) (c : ℕ) → IsNext s before e → cells (atoms before) ≤ c → c < cells (atoms (e ∷ before))
    → IsBegun (e ∷ before) c
begun_now s e before c next high low =
    let told : atoms (e ∷ before) ≡ after s.rules (atoms before) (call_of e.call) = atoms_next s before e next in
    by told (call_begins s.rules (atoms before) e.call c high (rw told at low))
  where
    by : atoms (e ∷ before) ≡ after s.rules (atoms before) (call_of e.call)
        → IsBatched (after s.rules (atoms before) (call_of e.call)) c ⊎ (begins_primed c (reply_to s.rules (atoms before) e.call) ≡ true) → IsBegun (e ∷ before) c
    by told (inl batched) = inl (batched.0, ap (λ (h : List Atom). cell_batch h c) told ∙ batched.1)
    by told (inr primed) =
        let now : primes c e ≡ true = rw next.reply primed in
        inr (newest before e, rw now refl)

is_begun : (s : Service) (past : List Event) (c : ℕ) → desk.IsLegal s past → c < cells (atoms past) → IsBegun past c
is_begun s [] c legal low = absurd (omega arith)
is_begun s (e ∷ before) c legal low = by (is_begun s before c legal.1) (cases_lt c (cells (atoms before)))
  where
    by : (c < cells (atoms before) → IsBegun before c) → (c < cells (atoms before)) ⊎ (cells (atoms before) ≤ c) → IsBegun (e ∷ before) c
    by rest (inl old) = begun_more s e before c legal old (rest old)
    by rest (inr new) = begun_now s e before c legal.0 new low

-- ---- the batch of a cell

named_at : (history : List Atom) (c b : ℕ) (o : Option Begun) → (cell_batch history c ≡ Some b → is_named history b ≡ true)
    → batch_at c o (cell_batch history c) ≡ Some b → (is_number b (batch_of o) || is_named history b) ≡ true
named_at history c b None rest is = rest is
named_at history c b (Some g) rest is = by (nat_eq c g.cell) is
  where
    other : (t : Bool) → is_named history b ≡ true → (t || is_named history b) ≡ true
    other true f = refl
    other false f = f

    by : (t : Bool) → cond t g.batch (cell_batch history c) ≡ Some b → (is_number b g.batch || is_named history b) ≡ true
    by true f = rw (f, eq-eqb b b refl) refl
    by false f = other (is_number b g.batch) (rest f)

-- the batch of a cell is named by a load
batch_named : (history : List Atom) (c b : ℕ) → cell_batch history c ≡ Some b → is_named history b ≡ true
batch_named [] c b is = absurd (let bad : ◌≡◌ {A = Option ℕ} None (Some b) = is in cc)
batch_named (a ∷ before) c b is = named_at before c b (begins a) (batch_named before c b) is

-- so it is one of those that were begun
batch_begun : (rules : Rules) (history : List Atom) (c b : ℕ) → atom.AllAnswered rules history → cell_batch history c ≡ Some b → b < begun history
batch_begun rules history c b legal is = ltb-true b (begun history) (sym (named rules history legal b) ∙ batch_named history c b is)

-- ---- the end of a batch

end_other : (b n : ℕ) (e : End) (rest : Option End) → nat_eq b n ≡ false → cond (nat_eq b n) (Some e) rest ≡ rest
end_other b n e rest other = rw other refl

loads_unending : (rules : Rules) (history : List Atom) (ks : List Key) (b : ℕ) → end_of (loaded rules history ks) b ≡ end_of history b
loads_unending rules history [] b = refl
loads_unending rules history (k ∷ ks) b = loads_unending rules (atom.Load k (load_reply rules history k) ∷ history) ks b

call_unending : (rules : Rules) (history : List Atom) (call : Call) (b : ℕ) → ends_batch b call ≡ false
    → end_of (after rules history (call_of call)) b ≡ end_of history b
call_unending rules history (LoadMany ks) b none = loads_unending rules history ks b
call_unending rules history (Settle n os) b none = end_other b n Settled (end_of history b) none
call_unending rules history (Fail n fault) b none = end_other b n Failed (end_of history b) none
call_unending rules history call b none = refl

-- a batch that has ended was ended by an event
last_ended : (s : Service) (past : List Event) (b : ℕ) → desk.IsLegal s past → IsSome (end_of (atoms past) b)
    → (p : Placed) × (last_of (ends b) past ≡ Some p)
last_ended s [] b legal some = absurd (let bad : false ≡ true = some in cc)
last_ended s (e ∷ before) b legal some = by (last_ended s before b legal.1) (ends b e) refl
  where
    by : (IsSome (end_of (atoms before) b) → (p : Placed) × (last_of (ends b) before ≡ Some p)) → (t : Bool) → ends b e ≡ t
        → (p : Placed) × (cond t (Some (newest before e)) (last_of (ends b) before) ≡ Some p)
    by rest true now = (newest before e, refl)
    by rest false other =
        let same : end_of (atoms (e ∷ before)) b ≡ end_of (atoms before) b =
        ap (λ (h : List Atom). end_of h b) (atoms_next s before e legal.0) ∙ call_unending s.rules (atoms before) e.call b other in
        rest (subst (λ (o : Option End). IsSome o) same some)

-- ---- the end of a cell

ended_batch : (past : List Event) (b : ℕ) (o : Option Placed) → (p : Placed) × (last_of (ends b) past ≡ Some p)
    → (p : Placed) × (option_or o (last_of (ends b) past) ≡ Some p)
ended_batch past b (Some q) end = (q, refl)
ended_batch past b None end = end

-- where each batch has ended, so has each cell that was begun
has_ended : (s : Service) (past : List Event) (c : ℕ) → desk.IsLegal s past → ((b : ℕ) → b < begun (atoms past) → IsSome (end_of (atoms past) b))
    → c < cells (atoms past) → (p : Placed) × (ending past c ≡ Some p)
has_ended s past c legal all low = by (is_begun s past c legal low)
  where
    by : IsBegun past c → (p : Placed) × (ending past c ≡ Some p)
    by (inl batched) =
        let b = batched.0 in
        let sent = batch_begun s.rules (atoms past) c b (legal_atoms s past legal) batched.1 in
        rw batched.1 (ended_batch past b (last_of (primes c) past) (last_ended s past b legal (all b sent)))
    by (inr primed) = (primed.0, rw primed.1 refl)

-- and shows its outcome
pub shows_end : (s : Service) (es : List Event) (c : ℕ) → AnswersEach s.answer → IsLegal s es → AllEnded es → c < cells (atoms (past es))
    → IsSome (ending_of es c)
shows_end s es c each legal all low =
    let end = has_ended s (past es) c legal all low in
    let at : ended (past es) c ≡ Some end.0.place = rw end.1 refl in
    let given = has_outcome s es c end.0.place each legal at in
    rw (at, given.1) refl

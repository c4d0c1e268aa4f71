-- What a serial loader keeps through its calls.
use Rattle.std.proofs.Common.{◌≡◌, ◌∙◌, sym, ap, refl, ℕ, zero, suc, ◌+◌, ◌<◌, ◌⊎◌, inl, inr, Bool, true, false, List, [], ◌∷◌, length, map, set, Option, Some, None}
use Rattle.std.proofs.Common.{slice_get, get_or, option_map, IfSome, arith}
use Rattle.std.proofs.lemmas.List.{length-set}
use Rattle.std.proofs.lemmas.Option.{slice_get-map}
use Rattle.dl_desk.specs.declared.event.Call.{Call}
use Rattle.dl_desk.specs.declared.event.Ending.{Ending}
use Rattle.dl_desk.specs.declared.event.Reply.{Reply}
use Rattle.dl_history.specs.declared.pass.GivenTicket.{GivenTicket}
use Rattle.dl_history.specs.Accounts.{account_of, accounts_of}
use Rattle.dl_history.specs.Agreement.{Account}
use Rattle.dl_history.specs.declared.fault.CloseFault.{CloseFault}
use Rattle.dl_history.specs.declared.fault.CloseFault.TheVariants.{PassesMissing, Behind, Unshown, Unsettled, OutOfMemory}
use Rattle.dl_history.specs.Flags.{KnownFlags, known_flags}
use Rattle.dl_history.specs.Pass.{Pass, Trace, trace, given, new_traces, with_call, with_saw}
use Rattle.dl_loader.specs.Book.{Book, book}
use Rattle.dl_loader.specs.EventEffect.{Makes, event_of, loads_of}
use Rattle.dl_loader.specs.CloseRefusals.{RefusesClose}
use Rattle.dl_desk.specs.Service.{Service}
use Rattle.dl_loader.specs.SerialLoader.{AreNumbered, IsSerial, book_if, serial}
use Rattle.dl_loader.proofs.AdditionLemmas.{tickets_caller}

-- a book that isn't stopped
pub as_running : (b : Book) → b.flags.stopped ≡ false → book_if false b ≡ b
as_running b running = ap (λ (s : Bool). book b.history b.desk b.cells (known_flags s b.flags.refused)) (sym running)

-- an event leaves the stop as it was
pub makes_as : {b now : Book} {p new : Trace} {c : Call} {r : Reply} (stopped : Bool) → Makes b p c r now new
    → Makes (book_if stopped b) p c r (book_if stopped now) new
makes_as stopped made = record {
  history = made.history;
  trace = made.trace;
  flags = ap (λ (f : KnownFlags). known_flags stopped f.refused) made.flags;
}

-- ---- the numbers of callers

get_set : (ps : List Trace) (n k : ℕ) (p q : Trace) → slice_get (set ps n p) k ≡ Some q → ((q ≡ p) × (k ≡ n)) ⊎ (slice_get ps k ≡ Some q)
get_set [] n k p q got = inr got
get_set (x ∷ ps) zero zero p q got = inl (let same : p ≡ q = (let both : ◌≡◌ {A = Option Trace} (Some p) (Some q) = got in cc) in sym same, refl)
get_set (x ∷ ps) zero (suc k) p q got = inr got
get_set (x ∷ ps) (suc n) zero p q got = inr got
get_set (x ∷ ps) (suc n) (suc k) p q got = by (get_set ps n k p q got)
  where
    by : ((q ≡ p) × (k ≡ n)) ⊎ (slice_get ps k ≡ Some q) → ((q ≡ p) × (suc k ≡ suc n)) ⊎ (slice_get (x ∷ ps) (suc k) ≡ Some q)
    by (inl (same, at)) = inl (same, ap suc at)
    by (inr old) = inr old

-- a trace is replaced by another of its caller
pub numbered_set : (ps : List Trace) (n : ℕ) (p : Trace) → AreNumbered ps → p.caller ≡ n → AreNumbered (set ps n p)
numbered_set ps n p before own = λ k q got. by k q (get_set ps n k p q got)
  where
    by : (k : ℕ) (q : Trace) → ((q ≡ p) × (k ≡ n)) ⊎ (slice_get ps k ≡ Some q) → q.caller ≡ k
    by k q (inl (same, at)) = ap (λ (r : Trace). r.caller) same ∙ (own ∙ sym at)
    by k q (inr old) = before k q old

-- the callers that have made no call
pub new_numbered : (k n i : ℕ) (p : Trace) → slice_get (new_traces k n) i ≡ Some p → p.caller ≡ k + i
new_numbered k zero i p got = absurd (let bad : ◌≡◌ {A = Option Trace} None (Some p) = got in cc)
new_numbered k (suc n) zero p got =
    let same : trace k [] [] ≡ p = (let both : ◌≡◌ {A = Option Trace} (Some (trace k [] [])) (Some p) = got in cc) in
    let at : k ≡ k + 0 = omega arith in
    ap (λ (r : Trace). r.caller) (sym same) ∙ at
new_numbered k (suc n) (suc i) p got = let at : k + 1 + i ≡ k + suc i = omega arith in new_numbered (k + 1) n i p got ∙ at

pub new_count : (k n : ℕ) → length (new_traces k n) ≡ n
new_count k zero = refl
new_count k (suc n) = ap suc (new_count (k + 1) n)

-- ---- what a call and a read leave

-- a call leaves the trace its caller's
pub caller_stays : {b now : Book} {p new : Trace} {c : Call} {r : Reply} → Makes b p c r now new → new.caller ≡ p.caller
caller_stays {b} {now} {p} {new} {c} {r} made =
    ap (λ (q : Trace). q.caller) made.trace ∙ tickets_caller (with_call p (length b.history) (event_of p c r)) (loads_of r)

-- and so does a read
pub saw_caller : (p : Trace) (n c : ℕ) (e : Ending) (seen : Bool) → (with_saw p n c e seen).caller ≡ p.caller
saw_caller p n c e true = refl
saw_caller p n c e false = refl

-- ---- what stands at a place

-- what an index finds
pub item_at : {X : Type 0} (xs : List X) (i : ℕ) (x : X) → x ≡ get_or xs i x → i < length xs → slice_get xs i ≡ Some x
item_at [] i x is low = absurd (omega arith)
item_at (y ∷ xs) zero x is low = ap Some (sym is)
item_at (y ∷ xs) (suc i) x is low = item_at xs i x is (omega arith)

-- and what it finds of a part of each
pub part_at : {X Y : Type 0} (f : X → Y) (xs : List X) (i : ℕ) (x : X) → x ≡ get_or xs i x → i < length xs → slice_get (map f xs) i ≡ Some (f x)
part_at f xs i x is low = slice_get-map f xs i ∙ ap (option_map f) (item_at xs i x is low)

-- the trace of a caller
pub own_trace : (ps : List Trace) (i : ℕ) → i < length ps → (p : Trace) × (slice_get ps i ≡ Some p)
own_trace [] i low = absurd (omega arith)
own_trace (p ∷ ps) zero low = (p, refl)
own_trace (p ∷ ps) (suc i) low = own_trace ps i (omega arith)

given_at : (gs : List GivenTicket) (n c : ℕ) → n < length gs → IfSome (slice_get gs n) (λ g. c ≡ g.cell) → (seen : Bool) × (slice_get gs n ≡ Some (given c seen))
given_at [] n c low told = absurd (omega arith)
given_at (g ∷ gs) zero c low told = (g.seen, ap (λ (x : ℕ). Some (given x g.seen)) (sym told))
given_at (g ∷ gs) (suc n) c low told = given_at gs n c (omega arith) told

-- a ticket that a caller has was given for its cell
pub gave_at : (p : Trace) (n c : ℕ) → n < length p.tickets → IfSome (slice_get p.tickets n) (λ g. c ≡ g.cell)
    → (seen : Bool) × (slice_get p.tickets n ≡ Some (given c seen))
gave_at p n c low told = given_at p.tickets n c low told

-- the tickets of the trace of a caller are so many
pub number_low : (ps : List Trace) (i n : ℕ) (p : Trace) → slice_get ps i ≡ Some p → IfSome (slice_get ps i) (λ q. n < length q.tickets) → n < length p.tickets
number_low ps i n p at low = rw at at low

-- ---- a trace is replaced

-- by one of the same caller
pub serial_set : {callers parts : ℕ} {own : Service} {b now : Book} {ps : List Trace} (n : ℕ) (p q : Trace)
    → IsSerial callers parts own (serial b ps) → now.flags.stopped ≡ false → slice_get ps n ≡ Some p → q.caller ≡ p.caller
    → IsSerial callers parts own (serial now (set ps n q))
serial_set {ps = ps} n p q is running at caller =
    let long = length-set ps n q in
    record {
      callers_are = is.callers_are;
      parts_are = is.parts_are;
      answers = is.answers;
      unstopped = running;
      each = long ∙ is.each;
      numbered = numbered_set ps n q is.numbered (caller ∙ is.numbered n p at);
    }

-- ---- the close

pub accounts_are : (ps : List Pass) → accounts_of ps ≡ map account_of (map (λ p. p.trace) ps)
accounts_are [] = refl
accounts_are (p ∷ ps) = ap (λ (rest : List Account). account_of p.trace ∷ rest) (accounts_are ps)

-- whether a loader is stopped has no part in the refusal of its close
pub refuses_as : (callers : ℕ) (stopped : Bool) (b : Book) (accounts : List Account) (fault : CloseFault) → RefusesClose callers b accounts fault
    → RefusesClose callers (book_if stopped b) accounts fault
refuses_as callers stopped b accounts (PassesMissing want got) refuses = refuses
refuses_as callers stopped b accounts (Behind front len) refuses = refuses
refuses_as callers stopped b accounts (Unshown cell) refuses = refuses
refuses_as callers stopped b accounts (Unsettled batch) refuses = refuses
refuses_as callers stopped b accounts OutOfMemory refuses = refuses

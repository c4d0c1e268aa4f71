-- The tests of a close, one pass, one entry or one batch after another.
use Rattle.std.proofs.Common.{◌≡◌, ◌∙◌, sym, ap, subst, ℕ, zero, suc, ◌+◌, ◌<◌, ◌≤◌, min, ◌⊎◌, inl, inr, Bool, true, false, cond, ◌||◌, List, [], ◌∷◌, ◌++◌}
use Rattle.std.proofs.Common.{length, take, filter, flat_map, Option, Some, None, slice_get, get_or, nat_eq, nat_le, refl, arith, append_assoc}
use Rattle.std.proofs.lemmas.Bool.{cases_lt, eqb-true, leb-true, leb-false}
use Rattle.std.proofs.lemmas.List.{append-nil, map-append, take_more, take_all}
use Rattle.std.proofs.lemmas.List.Elements.{filter-append}
use Rattle.std.proofs.lemmas.List.Concat.{flat_map-append}
use Rattle.dl_desk.specs.History.{Atom, Begun, begins, cells, count_cell, batch_of, is_named, count_batch, begun}
use Rattle.dl_desk.specs.Events.{atoms}
use Rattle.dl_loader.specs.Book.{Book, Keeps}
use Rattle.dl_history.specs.History.{past, HasEnd, AllEnded}
use Rattle.dl_desk.specs.Service.{Service}
use Rattle.dl_history.specs.Agreement.{Account, account, accounts_by, HasEach, NoneBehind, refused_in, read_in, unshown}
use Rattle.dl_history.specs.Accounts.{account_of, accounts_of}
use Rattle.dl_loader.specs.CloseRefusals.{present, IsBehind, IsLeastOf}
use Rattle.dl_loader.specs.Inside.CloseSteps.{earlier}
use Rattle.dl_history.specs.Journal.{cell_refused, Cell}
use Rattle.dl_history.specs.Entries.{Entry, front_of}
use Rattle.dl_history.specs.Lists.{Among, one_if}
use Rattle.dl_history.specs.Pass.{Pass}
use Rattle.dl_loader.specs.declared.loader.close.PassFront.{PassFront}
use Rattle.dl_history.proofs.ListLemmas.{among_longer, every_append, every_weaker}
use Rattle.dl_history.proofs.ListLemmas.{get-append_at, get-snoc}

-- ---- how many callers have exactly one pass

present-le : (n : ℕ) (accounts : List Account) → present n accounts ≤ n
present-le zero accounts = omega arith
present-le (suc n) accounts = let rest = present-le n accounts in by (nat_eq (accounts_by n accounts) 1) rest
  where
    by : (t : Bool) → present n accounts ≤ n → present n accounts + one_if t ≤ suc n
    by true low = omega arith
    by false low = omega arith

one_is : (b : Bool) → one_if b ≡ 1 → b ≡ true
one_is true is = refl
one_is false is = absurd (omega arith)

one-le : (b : Bool) → one_if b ≤ 1
one-le true = omega arith
one-le false = omega arith

-- where all have, each has
present_all : (n : ℕ) (accounts : List Account) → present n accounts ≡ n → HasEach n accounts
present_all zero accounts all m low = absurd (omega arith)
present_all (suc n) accounts all m low = by (present_all n accounts) (cases_lt m n)
  where
    by : (present n accounts ≡ n → HasEach n accounts) → (m < n) ⊎ (n ≤ m) → accounts_by m accounts ≡ 1
    by rest (inl less) =
        let most = present-le n accounts in
        let one = one-le (nat_eq (accounts_by n accounts) 1) in
        rest (omega arith) m less
    by rest (inr last) =
        let most = present-le n accounts in
        let one = one-le (nat_eq (accounts_by n accounts) 1) in
        let same : m ≡ n = omega arith in
        let is : nat_eq (accounts_by n accounts) 1 ≡ true = one_is (nat_eq (accounts_by n accounts) 1) (omega arith) in
        rw same (eqb-true (accounts_by n accounts) 1 is)

-- where no fewer have than there are, each has
pub each_present : (callers parts got : ℕ) (accounts : List Account) → callers ≡ parts → got ≡ present callers accounts → callers ≤ got → HasEach parts accounts
each_present callers parts got accounts same is all =
    let most = present-le callers accounts in
    let whole : present callers accounts ≡ callers = omega arith in
    subst (λ (n : ℕ). HasEach n accounts) same (present_all callers accounts whole)

-- the accounts of one pass more
accounts_next : (passes : List Pass) (i : ℕ) (p : Pass) → i < length passes → p ≡ get_or passes i p
    → accounts_of (take (i + 1) passes) ≡ accounts_of (take i passes) ++ account_of p.trace ∷ []
accounts_next passes i p low is =
    let next : take (i + 1) passes ≡ take i passes ++ p ∷ [] = take_more passes i p low ∙ ap (λ (q : Pass). take i passes ++ q ∷ []) (sym is) in
    rw next (map-append (λ (q : Pass). account_of q.trace) (take i passes) (p ∷ []))

-- ---- passes that have seen more than there is

-- what was found of the accounts that have seen more than so many events
abbrev pub IsFound : ℕ → List Account → Option PassFront → Type 0
IsFound len accounts None = NoneBehind len accounts
IsFound len accounts (Some found) = IsBehind len accounts found

-- the caller of an account, and the front of its pass
abbrev front_by : Account → PassFront
front_by a = record { caller = a.caller; front = front_of a.entries }

among_push : (accounts : List Account) (a x : Account) → Among x (accounts ++ a ∷ []) → Among x accounts ⊎ (x ≡ a)
among_push accounts a x among = by (get-snoc accounts a x among.0 among.1)
  where
    by : ((among.0 < length accounts) × (slice_get accounts among.0 ≡ Some x)) ⊎ ((among.0 ≡ length accounts) × (x ≡ a)) → Among x accounts ⊎ (x ≡ a)
    by (inl old) = inl (among.0, old.1)
    by (inr new) = inr new.1

same_front : (x a : Account) → x ≡ a → (front_of x.entries ≡ front_of a.entries) × (x.caller ≡ a.caller)
same_front x a is = (ap (λ (b : Account). front_of b.entries) is, ap (λ (b : Account). b.caller) is)

none_more : (len : ℕ) (accounts : List Account) (a : Account) → NoneBehind len accounts → front_of a.entries ≤ len → NoneBehind len (accounts ++ a ∷ [])
none_more len accounts a none low x among = by (among_push accounts a x among)
  where
    by : Among x accounts ⊎ (x ≡ a) → front_of x.entries ≤ len
    by (inl old) = none x old
    by (inr new) = let same = (same_front x a new).0 in omega arith

first_behind : (len : ℕ) (accounts : List Account) (a : Account) → NoneBehind len accounts → len < front_of a.entries
    → IsBehind len (accounts ++ a ∷ []) (front_by a)
first_behind len accounts a none high = record {
  entries = a.entries;
  among = (length accounts, get-append_at accounts a []);
  front_is = refl;
  beyond = high;
  least = λ x among beyond. by x beyond (among_push accounts a x among);
}
  where
    by : (x : Account) → len < front_of x.entries → Among x accounts ⊎ (x ≡ a) → a.caller ≤ x.caller
    by x beyond (inl old) = let low = none x old in absurd (omega arith)
    by x beyond (inr new) = let same = (same_front x a new).1 in omega arith

still_behind : (len : ℕ) (accounts : List Account) (a : Account) (first : PassFront) → IsBehind len accounts first
    → (len < front_of a.entries → first.caller ≤ a.caller) → IsBehind len (accounts ++ a ∷ []) first
still_behind len accounts a first found later = record {
  entries = found.entries;
  among = among_longer (account first.caller found.entries) accounts (a ∷ []) found.among;
  front_is = found.front_is;
  beyond = found.beyond;
  least = λ x among beyond. by x beyond (among_push accounts a x among);
}
  where
    by : (x : Account) → len < front_of x.entries → Among x accounts ⊎ (x ≡ a) → first.caller ≤ x.caller
    by x beyond (inl old) = found.least x old beyond
    by x beyond (inr new) = let same = same_front x a new in let front_same = same.0 in let caller_same = same.1 in let low = later (omega arith) in omega arith

earlier_behind : (len : ℕ) (accounts : List Account) (a : Account) (first : PassFront) → IsBehind len accounts first → len < front_of a.entries
    → a.caller < first.caller → IsBehind len (accounts ++ a ∷ []) (front_by a)
earlier_behind len accounts a first found high less = record {
  entries = a.entries;
  among = (length accounts, get-append_at accounts a []);
  front_is = refl;
  beyond = high;
  least = λ x among beyond. by x beyond (among_push accounts a x among);
}
  where
    by : (x : Account) → len < front_of x.entries → Among x accounts ⊎ (x ≡ a) → a.caller ≤ x.caller
    by x beyond (inl old) = let low = found.least x old beyond in omega arith
    by x beyond (inr new) = let same = (same_front x a new).1 in omega arith

found_more : (len : ℕ) (accounts : List Account) (a : Account) (found : Option PassFront) → IsFound len accounts found
    → IsFound len (accounts ++ a ∷ []) (earlier len found (front_by a))
found_more len accounts a None none = by (nat_le (front_of a.entries) len) refl
  where
    by : (t : Bool) → nat_le (front_of a.entries) len ≡ t → IsFound len (accounts ++ a ∷ []) (cond t None (Some (front_by a)))
    by true is = none_more len accounts a none (leb-true (front_of a.entries) len is)
    by false is = first_behind len accounts a none (leb-false (front_of a.entries) len is)
found_more len accounts a (Some first) found = by (nat_le (front_of a.entries) len) refl (nat_le first.caller a.caller) refl
  where
    by : (t : Bool) → nat_le (front_of a.entries) len ≡ t → (u : Bool) → nat_le first.caller a.caller ≡ u
        → IsFound len (accounts ++ a ∷ []) (cond (t || u) (Some first) (Some (front_by a)))
    by true is u later = let low = leb-true (front_of a.entries) len is in still_behind len accounts a first found (λ high. absurd (omega arith))
    by false is true later = still_behind len accounts a first found (λ high. leb-true first.caller a.caller later)
    by false is false later = earlier_behind len accounts a first found (leb-false (front_of a.entries) len is) (leb-false first.caller a.caller later)

-- what was found, with one pass more
pub found_next : (len : ℕ) (passes : List Pass) (i : ℕ) (p : Pass) (found now : Option PassFront) (next : PassFront) → i < length passes → p ≡ get_or passes i p
    → IsFound len (accounts_of (take i passes)) found → next ≡ front_by (account_of p.trace) → now ≡ earlier len found next
    → IsFound len (accounts_of (take (i + 1) passes)) now
found_next len passes i p found now next low at before next_is is =
    rw (is, next_is, accounts_next passes i p low at) (found_more len (accounts_of (take i passes)) (account_of p.trace) found before)

-- ---- the least of the cells that refused

-- the lesser of what was found and one more
pub least_lesser : (ns : List ℕ) (n c : ℕ) → IsLeastOf (Some n) ns → IsLeastOf (Some (min n c)) (ns ++ c ∷ [])
least_lesser ns n c found = (
  by (cases_lt c n),
  every_append (λ m. min n c ≤ m) ns (c ∷ []) (every_weaker (λ m. n ≤ m) (λ m. min n c ≤ m) ns (λ m low. omega arith) found.1)
      (omega arith, tt),
)
  where
    by : (c < n) ⊎ (n ≤ c) → Among (min n c) (ns ++ c ∷ [])
    by (inl less) = let same : min n c ≡ c = omega arith in rw same (length ns, get-append_at ns c [])
    by (inr more) = let same : min n c ≡ n = omega arith in rw same (among_longer n ns (c ∷ []) found.0)

-- nothing more leaves what was found
pub least_same : (ns : List ℕ) (found : Option ℕ) → IsLeastOf found ns → IsLeastOf found (ns ++ [])
least_same ns found least = subst (λ (ms : List ℕ). IsLeastOf found ms) (sym (append-nil ns)) least

-- what was found, with one element's cells more
least_step : {X : Type 0} (f : X → List ℕ) (states : List Cell) (ns : List ℕ) (xs : List X) (x : X) (found now : Option ℕ)
    → IsLeastOf found (ns ++ refused_in states (flat_map f xs))
    → ((ms : List ℕ) → IsLeastOf found ms → IsLeastOf now (ms ++ refused_in states (f x))) → IsLeastOf now (ns ++ refused_in states (flat_map f (xs ++ x ∷ [])))
least_step f states ns xs x found now least more =
    let p : ℕ → Bool = λ c. cell_refused (slice_get states c) in
    let split : flat_map f (xs ++ x ∷ []) ≡ flat_map f xs ++ f x =
    flat_map-append f xs (x ∷ []) ∙ ap (λ (ms : List ℕ). flat_map f xs ++ ms) (append-nil (f x)) in
    let parts : refused_in states (flat_map f (xs ++ x ∷ [])) ≡ refused_in states (flat_map f xs) ++ refused_in states (f x) =
    ap (filter p) split ∙ filter-append p (flat_map f xs) (f x) in
    let whole : ns ++ refused_in states (flat_map f (xs ++ x ∷ [])) ≡ (ns ++ refused_in states (flat_map f xs)) ++ refused_in states (f x) =
    ap (λ (ms : List ℕ). ns ++ ms) parts ∙ sym (append_assoc ns (refused_in states (flat_map f xs)) (refused_in states (f x))) in
    subst (λ (ms : List ℕ). IsLeastOf now ms) (sym whole) (more (ns ++ refused_in states (flat_map f xs)) least)

-- with one entry more
pub least_entry : (states : List Cell) (ns : List ℕ) (entries : List Entry) (i : ℕ) (e : Entry) (found now : Option ℕ) → i < length entries
    → e ≡ get_or entries i e → IsLeastOf found (ns ++ refused_in states (flat_map read_in (take i entries)))
    → ((ms : List ℕ) → IsLeastOf found ms → IsLeastOf now (ms ++ refused_in states (read_in e)))
    → IsLeastOf now (ns ++ refused_in states (flat_map read_in (take (i + 1) entries)))
least_entry states ns entries i e found now low is least more =
    let next : take (i + 1) entries ≡ take i entries ++ e ∷ [] = take_more entries i e low ∙ ap (λ (l : Entry). take i entries ++ l ∷ []) (sym is) in
    rw next (least_step read_in states ns (take i entries) e found now least more)

-- with all entries
pub least_all : (states : List Cell) (ns : List ℕ) (entries : List Entry) (i : ℕ) (found : Option ℕ) → length entries ≤ i
    → IsLeastOf found (ns ++ refused_in states (flat_map read_in (take i entries))) → IsLeastOf found (ns ++ refused_in states (flat_map read_in entries))
least_all states ns entries i found all least = rw (take_all i entries all) at least

-- with one pass more
pub least_pass : (states : List Cell) (passes : List Pass) (i : ℕ) (p : Pass) (entries : List Entry) (found now : Option ℕ) → i < length passes
    → p ≡ get_or passes i p → entries ≡ p.trace.entries → IsLeastOf found (unshown states (accounts_of (take i passes)))
    → ((ms : List ℕ) → IsLeastOf found ms → IsLeastOf now (ms ++ refused_in states (flat_map read_in entries)))
    → IsLeastOf now (unshown states (accounts_of (take (i + 1) passes)))
least_pass states passes i p entries found now low is own least more =
    rw (accounts_next passes i p low is)
    (least_step (λ (a : Account). flat_map read_in a.entries) states [] (accounts_of (take i passes)) (account_of p.trace) found now least (rw own at more))

-- ---- batches

batches_step : (o : Option Begun) (before : List Atom) (n m : ℕ) → n ≤ m → count_batch (batch_of o) before n ≤ count_cell o m
batches_step None before n m low = low
batches_step (Some g) before n m low = by g.batch
  where
    at : (t : Bool) → cond t n (n + 1) ≤ m + 1
    at true = omega arith
    at false = omega arith

    by : (b : Option ℕ) → count_batch b before n ≤ m + 1
    by None = omega arith
    by (Some b) = at (is_named before b)

-- no more batches than cells were begun
pub batches_few : (history : List Atom) → begun history ≤ cells history
batches_few [] = omega arith
batches_few (a ∷ before) = batches_step (begins a) before (begun before) (cells before) (batches_few before)

-- where each batch below the number of cells that may be begun has ended, each has
pub all_ended : (s : Service) (b : Book) (n : ℕ) → Keeps s b → s.rules.limits.max_cells ≤ n → ((k : ℕ) → k < n → HasEnd b.history k) → AllEnded b.history
all_ended s b n kept most each k low =
    let few = batches_few (atoms (past b.history)) in
    let begun_are = kept.desk.cells in
    let fit = kept.cells_fit in
    each k (omega arith)

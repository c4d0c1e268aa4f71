-- What an end of a batch does to a book and to what is held.
use Rattle.std.proofs.Common.{◌≡◌, ◌∙◌, sym, subst, ℕ, zero, suc, ◌+◌, ◌<◌, Bool, true, false, ◌&&◌, ◌||◌, cond, List, [], ◌∷◌, ◌++◌, length, Option, Some}
use Rattle.std.proofs.Common.{None, slice_get, nat_eq, refl, arith}
use Rattle.std.specs.List.{list_any}
use Rattle.std.proofs.lemmas.Bool.{eqb-true, eqb-false, eq-eqb, ne_eqb, and_from, or_right}
use Rattle.dl_values.specs.Key.{Key, key_eq}
use Rattle.dl_values.specs.Limits.{Rules}
use Rattle.dl_desk.specs.History.{Atom, Settle, Fail, Begun, begins, cells, is_number, members, Latest, later, latest_at, latest, forgets, cell_kept, held}
use Rattle.dl_desk.specs.History.{begun, end_of, MayEnd, IsAnswered, AllAnswered}
use Rattle.dl_desk.specs.declared.reply.End.{End}
use Rattle.dl_desk.specs.declared.reply.End.TheVariants.{Settled, Failed}
use Rattle.dl_desk.specs.BatchBook.{Batch, BatchBook, batch_at, StandsFor, MayEndIn}
use Rattle.dl_desk.specs.Inside.Preparation.{has_pair, without, set_end, Forgets}
use Rattle.dl_values.proofs.KeyLemmas.{key_eq-sym}
use Rattle.dl_desk.proofs.Facts.{fresh_cell}
use Rattle.dl_desk.proofs.HeldLemmas.{held-same}
use Rattle.dl_desk.proofs.OpenBatch.{members_at-are}

-- ---- the cells of members

-- each cell of the members is below a number
abbrev pub Below : ℕ → List (Key × ℕ) → Type 0
Below n [] = Unit {0}
Below n (m ∷ ms) = (m.1 < n) × Below n ms

below_more : (n : ℕ) (ms : List (Key × ℕ)) → Below n ms → Below (n + 1) ms
below_more n [] b = tt
below_more n (m ∷ ms) b = ((let l = b.0 in omega arith), below_more n ms b.1)

below_push : (n : ℕ) (ms : List (Key × ℕ)) (m : Key × ℕ) → Below n ms → m.1 < n → Below n (ms ++ m ∷ [])
below_push n [] m b low = (low, tt)
below_push n (x ∷ ms) m b low = (b.0, below_push n ms m b.1 low)

below_step : (rules : Rules) (a : Atom) (before : List Atom) (b : ℕ) (o : Option Begun) → IsAnswered rules before a → begins a ≡ o
    → Below (cells before) (members before b) → Below (cells (a ∷ before)) (members (a ∷ before) b)
below_step rules a before b None answered is rest = rw is rest
below_step rules a before b (Some g) answered is rest = rw is (by (is_number b g.batch))
  where
    by : (t : Bool) → Below (cells before + 1) (cond t (members before b ++ (g.key, g.cell) ∷ []) (members before b))
    by true =
        below_push (cells before + 1) (members before b) (g.key, g.cell) (below_more (cells before) (members before b) rest)
        (let e = (fresh_cell rules before a g answered is).cell_is in omega arith)
    by false = below_more (cells before) (members before b) rest

pub members-below : (rules : Rules) (history : List Atom) → AllAnswered rules history → (b : ℕ) → Below (cells history) (members history b)
members-below rules [] legal b = tt
members-below rules (a ∷ before) legal b = below_step rules a before b (begins a) legal.0 refl (members-below rules before legal.1 b)

-- ---- the members of a batch and its own cells

pub has_pair-snoc : (ms : List (Key × ℕ)) (m : Key × ℕ) (k : Key) (c : ℕ) → has_pair (ms ++ m ∷ []) k c ≡ (has_pair ms k c || (key_eq k m.0 && nat_eq c m.1))
has_pair-snoc [] m k c = by (key_eq k m.0 && nat_eq c m.1)
  where
    by : (t : Bool) → (t || false) ≡ (false || t)
    by true = refl
    by false = refl
has_pair-snoc (x ∷ ms) m k c = rw (has_pair-snoc ms m k c) (by (key_eq k x.0 && nat_eq c x.1))
  where
    by : (t : Bool) → (t || (has_pair ms k c || (key_eq k m.0 && nat_eq c m.1))) ≡ (t || has_pair ms k c || (key_eq k m.0 && nat_eq c m.1))
    by true = refl
    by false = refl

none_step : (t : Bool) (c n : ℕ) (rest : Bool) → n < c → rest ≡ false → ((t && nat_eq c n) || rest) ≡ false
none_step true c n rest low none = rw (ne_eqb c n (λ e. absurd (omega arith))) none
none_step false c n rest low none = none

has_pair-high : (ms : List (Key × ℕ)) (k : Key) (c : ℕ) → Below c ms → has_pair ms k c ≡ false
has_pair-high [] k c b = refl
has_pair-high (m ∷ ms) k c b = none_step (key_eq k m.0) c m.1 (has_pair ms k c) b.0 (has_pair-high ms k c b.1)

-- what is told of the atom that began a key's latest cell
abbrev Own : List Atom → ℕ → Key → Option Latest → Type 0
Own history b k None = Unit {0}
Own history b k (Some l) = has_pair (members history b) k l.cell ≡ is_number b l.batch

own_later : (a : Atom) (before : List Atom) (b : ℕ) (k : Key) (o : Option Latest) → members (a ∷ before) b ≡ members before b → Own before b k o
    → Own (a ∷ before) b k (later a o)
own_later a before b k None same own = tt
own_later a before b k (Some l) same own = rw same own

-- a member of another key is no pair of this one
other_pair : (ms : List (Key × ℕ)) (j k : Key) (c d : ℕ) → key_eq j k ≡ false → has_pair (ms ++ (j, d) ∷ []) k c ≡ has_pair ms k c
other_pair ms j k c d other = has_pair-snoc ms (j, d) k c ∙ (rw (key_eq-sym k j, other) (by (has_pair ms k c)))
  where
    by : (t : Bool) → (t || false) ≡ t
    by true = refl
    by false = refl

own_other : (a : Atom) (before : List Atom) (b : ℕ) (k : Key) (g : Begun) (o : Option Latest) → begins a ≡ Some g → key_eq g.key k ≡ false → Own before b k o
    → Own (a ∷ before) b k (later a o)
own_other a before b k g None is other own = tt
own_other a before b k g (Some l) is other own = rw is (by (is_number b g.batch) ∙ own)
  where
    by : (t : Bool) → has_pair (cond t (members before b ++ (g.key, g.cell) ∷ []) (members before b)) k l.cell ≡ has_pair (members before b) k l.cell
    by true = other_pair (members before b) g.key k l.cell g.cell other
    by false = refl

own_begun : (a : Atom) (before : List Atom) (b : ℕ) (k : Key) (g : Begun) → begins a ≡ Some g → Below g.cell (members before b) → key_eq g.key k ≡ true
    → has_pair (members (a ∷ before) b) k g.cell ≡ is_number b g.batch
own_begun a before b k g is low same = rw is (by (is_number b g.batch))
  where
    by : (t : Bool) → has_pair (cond t (members before b ++ (g.key, g.cell) ∷ []) (members before b)) k g.cell ≡ t
    by true =
        has_pair-snoc (members before b) (g.key, g.cell) k g.cell ∙ or_right (has_pair (members before b) k g.cell) (key_eq k g.key && nat_eq g.cell g.cell)
        (and_from (key_eq k g.key) (nat_eq g.cell g.cell) (key_eq-sym k g.key ∙ same) (eq-eqb g.cell g.cell refl))
    by false = has_pair-high (members before b) k g.cell low

own_step : (rules : Rules) (a : Atom) (before : List Atom) (b : ℕ) (k : Key) (o : Option Begun) → IsAnswered rules before a → AllAnswered rules before
    → begins a ≡ o → Own before b k (latest before k) → Own (a ∷ before) b k (latest_at k o (later a (latest before k)))
own_step rules a before b k None answered legal is own = own_later a before b k (latest before k) (rw is refl) own
own_step rules a before b k (Some g) answered legal is own = by (key_eq g.key k) refl
  where
    low : Below g.cell (members before b)
    low = let P : ℕ → Type 0 = λ n. Below n (members before b) in subst P (sym (fresh_cell rules before a g answered is).cell_is)
        (members-below rules before legal b)

    by : (t : Bool) → key_eq g.key k ≡ t → Own (a ∷ before) b k (cond t (Some (record { cell = g.cell; batch = g.batch; after = [] }))
        (later a (latest before k)))
    by true same = own_begun a before b k g is low same
    by false other = own_other a before b k g (latest before k) is other own

-- in a legal history the latest cell of a key is a member's of the batch that it was begun in, and of no other
pub own : (rules : Rules) (history : List Atom) → AllAnswered rules history → (b : ℕ) (k : Key) → Own history b k (latest history k)
own rules [] legal b k = tt
own rules (a ∷ before) legal b k = own_step rules a before b k (begins a) legal.0 legal.1 refl (own rules before legal.1 b k)

-- ---- what is held after a fail

fail_step : (before : List Atom) (b : ℕ) (k : Key) (o : Option Latest) → Own before b k o
    → cell_kept k (later (Fail b) o) ≡ without (members before b) k (cell_kept k o)
fail_step before b k None own = refl
fail_step before b k (Some l) own = by (is_number b l.batch) (list_any (forgets k l.batch) l.after) own
  where
    by : (mine gone : Bool) → has_pair (members before b) k l.cell ≡ mine
        → cond (mine || gone) None (Some l.cell) ≡ without (members before b) k (cond gone None (Some l.cell))
    by true true p = refl
    by true false p = rw p refl
    by false true p = refl
    by false false p = rw p refl

pub held-fail : (rules : Rules) (history : List Atom) → AllAnswered rules history → (b : ℕ) (k : Key)
    → held (Fail b ∷ history) k ≡ without (members history b) k (held history k)
held-fail rules history legal b k = fail_step history b k (latest history k) (own rules history legal b k)

-- ---- the batches with an end

pub length-set_end : (xs : List Batch) (b : ℕ) (e : End) → length (set_end xs b e) ≡ length xs
length-set_end [] b e = refl
length-set_end (x ∷ xs) zero e = refl
length-set_end (x ∷ xs) (suc b) e = let rest = length-set_end xs b e in omega arith

abbrev with_end : Batch → End → Batch
with_end x e = record { members = x.members; end = Some e }

get-set_end : (xs : List Batch) (b : ℕ) (e : End) (x : Batch) → slice_get xs b ≡ Some x → slice_get (set_end xs b e) b ≡ Some (with_end x e)
get-set_end [] b e x at = absurd (let bad : ◌≡◌ {A = Option Batch} None (Some x) = at in cc)
get-set_end (y ∷ xs) zero e x at = let two : ◌≡◌ {A = Option Batch} (Some y) (Some x) = at in let is : y ≡ x = cc in rw is refl
get-set_end (y ∷ xs) (suc b) e x at = get-set_end xs b e x at

get-set_end_other : (xs : List Batch) (b n : ℕ) (e : End) → (n ≡ b → ⊥) → slice_get (set_end xs b e) n ≡ slice_get xs n
get-set_end_other [] b n e other = refl
get-set_end_other (x ∷ xs) zero zero e other = absurd (other refl)
get-set_end_other (x ∷ xs) zero (suc n) e other = refl
get-set_end_other (x ∷ xs) (suc b) zero e other = refl
get-set_end_other (x ∷ xs) (suc b) (suc n) e other = get-set_end_other xs b n e (λ s. other (omega arith))

ended_batches : (old : BatchBook) (history : List Atom) (b : ℕ) (e : End) → StandsFor old history → b < begun history → (n : ℕ) → n < begun history
    → slice_get (set_end old.batches b e) n ≡ Some (record { members = members history n; end = cond (nat_eq n b) (Some e) (end_of history n) })
ended_batches old history b e stands low n below = by (nat_eq n b) refl
  where
    by : (t : Bool) → nat_eq n b ≡ t → slice_get (set_end old.batches b e) n ≡ Some
        (record { members = members history n; end = cond t (Some e) (end_of history n) })
    by true same = let at : n ≡ b = eqb-true n b same in rw (← at) (get-set_end old.batches n e (batch_at history n) (stands.batches n below))
    by false other = get-set_end_other old.batches b n e (eqb-false n b other) ∙ stands.batches n below

-- the book's batch may end where the history's may
pub may_end : (book : BatchBook) (history : List Atom) (b : ℕ) → StandsFor book history → MayEndIn book b → MayEnd history b
may_end book history b stands may = record {
  is_sent = rw stands.sent at may.is_sent;
  no_end = let low : b < begun history = rw stands.count at may.is_begun in rw (stands.batches b low) at may.no_end;
}

-- the book with an end of one of its batches
abbrev pub ended : BatchBook → ℕ → End → BatchBook
ended book b e = record book { batches = set_end book.batches b e }

-- the book after a settle stands for the history with it
pub stands_settled : (old new : BatchBook) (history : List Atom) (b : ℕ) → StandsFor old history → MayEndIn old b → new ≡ ended old b Settled
    → StandsFor new (Settle b ∷ history)
stands_settled old new history b stands may is =
    let low : b < begun history = rw stands.count at may.is_begun in
    let P : BatchBook → Type 0 = λ book. StandsFor book (Settle b ∷ history) in
    subst P (sym is) (record {
      answered = (may_end old history b stands may, stands.answered);
      memo = λ k. stands.memo k ∙ sym (held-same (Settle b) history k refl (λ batch. refl));
      cells = stands.cells;
      sent = stands.sent;
      count = length-set_end old.batches b Settled ∙ stands.count;
      batches = λ n below. ended_batches old history b Settled stands low n below;
    })

-- and so does the book after a fail, which first forgot the batch's own cells
pub stands_failed : (old forgot new : BatchBook) (history : List Atom) (b : ℕ) → StandsFor old history → MayEndIn old b → Forgets old b forgot
    → new ≡ ended forgot b Failed → StandsFor new (Fail b ∷ history)
stands_failed old forgot new history b stands may f is =
    let low : b < begun history = rw stands.count at may.is_begun in
    let P : BatchBook → Type 0 = λ book. StandsFor book (Fail b ∷ history) in
    subst P (sym is) (record {
      answered = let R : Rules → Type 0 = λ r. AllAnswered r (Fail b ∷ history) in subst R (sym f.rules) (may_end old history b stands may, stands.answered);
      memo = λ k. f.memo k ∙ (rw (members_at-are old history stands b low, stands.memo k) (sym (held-fail old.rules history stands.answered b k)));
      cells = f.cells ∙ stands.cells;
      sent = f.sent ∙ stands.sent;
      count = rw (f.batches, length-set_end) stands.count;
      batches = λ n below. rw f.batches (ended_batches old history b Failed stands low n below);
    })

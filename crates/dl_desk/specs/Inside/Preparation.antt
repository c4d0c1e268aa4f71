-- How the parts of a desk hold its two books, and what one step of a call does to a book.
use Rattle.std.specs.Prelude.{◌≡◌, ℕ, zero, suc, ◌<◌, ◌≤◌, ◌+◌, Bool, false, not, ◌&&◌, ◌||◌, ◌⊎◌, nat_eq, nat_lt, nat_le, if◌then◌else◌, map, take, List, []}
use Rattle.std.specs.Prelude.{◌∷◌, ◌++◌, length, Option, Some, None, IsSome, slice_get}
use Rattle.std.specs.Map.{lookup}
use Rattle.dl_values.specs.Key.{Key, key_eq}
use Rattle.dl_values.specs.Limits.{limit_of}
use Rattle.dl_desk.specs.History.{has_member, serves, greatest}
use Rattle.dl_desk.specs.Inside.StoredBatch.{StoredBatch}
use Rattle.dl_desk.specs.BatchBook.{Batch, BatchBook, end_at}
use Rattle.dl_desk.specs.declared.reply.End.{End}
use Rattle.dl_values.specs.declared.job.Job.{Job}
use Rattle.dl_desk.specs.declared.reply.LoadReply.{LoadReply}
use Rattle.dl_desk.specs.declared.reply.LoadReply.TheVariants.{Hit, Fresh}
use Rattle.dl_desk.specs.declared.reply.DeskPrime.{DeskPrime}
use Rattle.dl_desk.specs.declared.reply.DeskPrime.TheVariants.{Primed, Kept}
use Rattle.dl_desk.specs.declared.fault.DeskFault.{DeskFault}
use Rattle.dl_desk.specs.declared.fault.DeskFault.TheVariants.{NoBatch, NotSent, SettledBefore, CellsFull, OutOfMemory}

-- ---- stored batches

-- a stored batch with what is prepared
abbrev pub prepared_batch : StoredBatch → Batch
prepared_batch x = record { members = x.members; end = x.end }

-- a stored batch without what is prepared
abbrev pub shown_batch : StoredBatch → Batch
shown_batch x = record { members = take x.seen x.members; end = x.end }

-- a batch with no members
abbrev pub empty : Batch
empty = record { members = []; end = None }

-- outside of a range of batches nothing is prepared
abbrev pub Same : (from to : ℕ) → List StoredBatch → Type 0
Same from to stored = (b : ℕ) → (b < from) ⊎ (to ≤ b) → (x : StoredBatch) → slice_get stored b ≡ Some x → shown_batch x ≡ prepared_batch x

-- ---- members of a key

abbrev pub members_of : Option Batch → List (Key × ℕ)
members_of None = []
members_of (Some x) = x.members

-- no batch from the number on has a member of the key
abbrev pub NoneFrom : ℕ → List Batch → Key → Type 0
NoneFrom n xs k = (b : ℕ) → n ≤ b → has_member (members_of (slice_get xs b)) k ≡ false

-- no batch from the number on has a member of a key that the memo doesn't hold
abbrev pub AllHeld : ℕ → List (Key × ℕ) → List Batch → Type 0
AllHeld n memo xs = (k : Key) → lookup (key_eq k) memo ≡ None → NoneFrom n xs k

-- ---- what steps do to a book

-- the batches with one more member in the batch, which is new where it is none of them
abbrev pub put_member : List Batch → ℕ → Key × ℕ → List Batch
put_member [] b m = record { members = m ∷ []; end = None } ∷ []
put_member (x ∷ xs) zero m = record { members = x.members ++ m ∷ []; end = x.end } ∷ xs
put_member (x ∷ xs) (suc b) m = x ∷ put_member xs b m

-- the members of a batch of the book
abbrev pub members_at : BatchBook → ℕ → List (Key × ℕ)
members_at book b = members_of (slice_get book.batches b)

-- whether the batch isn't sent, and has fewer members than a batch that may mix tables
abbrev pub has_room_in : BatchBook → ℕ → Bool
has_room_in book b = nat_le book.sent b && nat_lt (length (members_at book b)) book.rules.limits.max_batch

-- whether the batch isn't sent, has fewer members than its limit, and none of the key
abbrev pub is_open_in : BatchBook → Key → ℕ → Bool
is_open_in book k b = nat_le book.sent b && nat_lt (length (members_at book b)) (limit_of book.rules k.table) && not (has_member (members_at book b) k)

abbrev pub room_of : BatchBook → Key → Option ℕ → ℕ
room_of book k None = length book.batches
room_of book k (Some b) = if is_open_in book k b then b else length book.batches

-- the batch that a fresh load of the key goes into, as the book has it
abbrev pub book_room : BatchBook → Key → ℕ
book_room book k = room_of book k (greatest (λ b. serves book.rules k (members_at book b)) (length book.batches))

abbrev pub put_in : List Batch → Option ℕ → Key × ℕ → List Batch
put_in xs None m = xs
put_in xs (Some b) m = put_member xs b m

-- the book after a cell of the key was begun, in a batch or in none
pub record Begins (old : BatchBook) (k : Key) (batch : Option ℕ) (new : BatchBook) : Type 0 where
  pub rules : new.rules ≡ old.rules
  pub cells : new.cells ≡ old.cells + 1
  pub sent : new.sent ≡ old.sent
  pub memo : (q : Key) → lookup (key_eq q) new.memo ≡ (if key_eq k q then Some old.cells else lookup (key_eq q) old.memo)
  pub batches : new.batches ≡ put_in old.batches batch (k, old.cells)

-- A member of the key may be put into a batch: a cell of it is begun and held, and no batch from the number on has a member of it.
pub record MayJoin (book : BatchBook) (k : Key) (forgotten : ℕ) : Type 0 where
  pub next : length book.batches < book.cells
  pub held : IsSome (lookup (key_eq k) book.memo)
  pub none : NoneFrom forgotten book.batches k

-- a member of the key was put into the batch that has room for it
pub record Joins (old : BatchBook) (k : Key) (cell batch : ℕ) (new : BatchBook) : Type 0 where
  pub room : batch ≡ book_room old k
  pub book : new ≡ record old { batches = put_member old.batches batch (k, cell) }

-- the load of a key makes this of a book, and has this reply
abbrev pub Puts : BatchBook → Key → LoadReply → BatchBook → Type 0
Puts old k (Hit cell) new = (lookup (key_eq k) old.memo ≡ Some cell) × (new ≡ old)
Puts old k (Fresh cell batch) new = (lookup (key_eq k) old.memo ≡ None) × (cell ≡ old.cells) × (batch ≡ book_room old k) × Begins old k (Some batch) new

-- the prime of a key makes this of a book, and has this reply
abbrev pub PutsAlone : BatchBook → Key → DeskPrime → BatchBook → Type 0
PutsAlone old k Kept new = IsSome (lookup (key_eq k) old.memo) × (new ≡ old)
PutsAlone old k (Primed cell) new = (lookup (key_eq k) old.memo ≡ None) × (cell ≡ old.cells) × Begins old k None new

-- the load of one more key is refused so, at a book
abbrev pub RefusesStep : BatchBook → Key → DeskFault → Type 0
RefusesStep book k (CellsFull limit) = (limit ≡ book.rules.limits.max_cells) × (book.cells ≡ book.rules.limits.max_cells) × (lookup (key_eq k) book.memo ≡ None)
RefusesStep book k OutOfMemory = Unit {0}
RefusesStep book k NoBatch = ⊥
RefusesStep book k NotSent = ⊥
RefusesStep book k SettledBefore = ⊥

-- the jobs of a number of batches of the book, from one on
abbrev pub book_jobs : BatchBook → ℕ → ℕ → List Job
book_jobs book b zero = []
book_jobs book b (suc n) = book_jobs book b n ++ record { batch = b + n; keys = map (λ m. m.0) (members_at book (b + n)) } ∷ []

-- whether the list has a member of this key and cell
abbrev pub has_pair : List (Key × ℕ) → Key → ℕ → Bool
has_pair [] k c = false
has_pair (m ∷ ms) k c = (key_eq k m.0 && nat_eq c m.1) || has_pair ms k c

-- what is held for a key once the memo forgets the members' own cells
abbrev pub without : List (Key × ℕ) → Key → Option ℕ → Option ℕ
without ms k None = None
without ms k (Some c) = if has_pair ms k c then None else Some c

-- the batches with an end of one of them
abbrev pub set_end : List Batch → ℕ → End → List Batch
set_end [] b e = []
set_end (x ∷ xs) zero e = record { members = x.members; end = Some e } ∷ xs
set_end (x ∷ xs) (suc b) e = x ∷ set_end xs b e

-- an end of a batch of the book is refused so
abbrev pub RefusesEnd : BatchBook → ℕ → DeskFault → Type 0
RefusesEnd book b NoBatch = length book.batches ≤ b
RefusesEnd book b NotSent = (b < length book.batches) × (book.sent ≤ b)
RefusesEnd book b SettledBefore = (b < length book.batches) × (b < book.sent) × IsSome (end_at book b)
RefusesEnd book b (CellsFull limit) = ⊥
RefusesEnd book b OutOfMemory = ⊥

-- the book after it forgot the keys of a batch that it held with the batch's own cells
pub record Forgets (old : BatchBook) (b : ℕ) (new : BatchBook) : Type 0 where
  pub rules : new.rules ≡ old.rules
  pub cells : new.cells ≡ old.cells
  pub sent : new.sent ≡ old.sent
  pub memo : (k : Key) → lookup (key_eq k) new.memo ≡ without (members_at old b) k (lookup (key_eq k) old.memo)
  pub batches : new.batches ≡ old.batches

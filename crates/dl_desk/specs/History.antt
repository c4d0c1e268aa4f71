-- What a data loader of one thread replies to each call. Each definition looks back through the whole history of calls,
-- and none keeps a memo, a batch or a cell from call to call (the reference documentation of graphql/dataloader: load,
-- loadMany, clear, clearAll, prime, maxBatchSize).
use Rattle.std.specs.Prelude.{◌≡◌, ℕ, zero, suc, ◌+◌, ◌-◌, ◌<◌, Bool, true, false, not, ◌&&◌, ◌||◌, List, [], ◌∷◌, ◌++◌, length, map, Option, Some, None}
use Rattle.std.specs.Prelude.{if◌then◌else◌, nat_eq, nat_lt, nat_le, bytes_eq}
use Rattle.std.specs.List.{list_any}
use Rattle.dl_values.specs.Key.{Key, key_eq}
use Rattle.dl_values.specs.Limits.{Rules, limit_of}
use Rattle.dl_desk.specs.declared.reply.LoadReply.{LoadReply}
use Rattle.dl_desk.specs.declared.reply.LoadReply.TheVariants.{Hit, Fresh}
use Rattle.dl_desk.specs.declared.reply.DeskPrime.{DeskPrime}
use Rattle.dl_desk.specs.declared.reply.DeskPrime.TheVariants.{Primed, Kept}
use Rattle.dl_values.specs.declared.job.Job.{Job}
use Rattle.dl_desk.specs.declared.reply.End.{End}
use Rattle.dl_desk.specs.declared.reply.End.TheVariants.{Settled, Failed}

-- ---- calls

-- A call with its reply. A loadMany counts as its loads, one after another.
pub data Atom : Type 0 where
  Load : Key → LoadReply → Atom
  Prime : Key → DeskPrime → Atom
  Clear : Key → Atom
  ClearAll : Atom
  Dispatch : List Job → Atom
  Settle : ℕ → Atom
  Fail : ℕ → Atom

-- A history is a list of atoms, the newest first: the atoms before an atom are the rest of the list.

-- ---- cells and batches

-- A cell that an atom begins: its key and, unless a prime began it, its batch.
pub record Begun : Type 0 where
  pub key : Key
  pub cell : ℕ
  pub batch : Option ℕ

-- a fresh load and a prime begin a cell
abbrev pub begins : Atom → Option Begun
begins (Load k (Fresh c b)) = Some (record { key = k; cell = c; batch = Some b })
begins (Prime k (Primed c)) = Some (record { key = k; cell = c; batch = None })
begins a = None

abbrev pub count_cell : Option Begun → ℕ → ℕ
count_cell None n = n
count_cell (Some g) n = n + 1

-- how many cells there are
abbrev pub cells : List Atom → ℕ
cells [] = 0
cells (a ∷ before) = count_cell (begins a) (cells before)

-- whether an option is this number
abbrev pub is_number : ℕ → Option ℕ → Bool
is_number b None = false
is_number b (Some n) = nat_eq b n

abbrev pub batch_of : Option Begun → Option ℕ
batch_of None = None
batch_of (Some g) = g.batch

-- whether a fresh load names the batch
abbrev pub is_named : List Atom → ℕ → Bool
is_named [] b = false
is_named (a ∷ before) b = is_number b (batch_of (begins a)) || is_named before b

abbrev pub count_batch : Option ℕ → List Atom → ℕ → ℕ
count_batch None before n = n
count_batch (Some b) before n = if is_named before b then n else n + 1

-- how many batches fresh loads name, each counted at the first load that names it
abbrev pub begun : List Atom → ℕ
begun [] = 0
begun (a ∷ before) = count_batch (batch_of (begins a)) before (begun before)

abbrev pub add_member : ℕ → Option Begun → List (Key × ℕ) → List (Key × ℕ)
add_member b None ms = ms
add_member b (Some g) ms = if is_number b g.batch then ms ++ (g.key, g.cell) ∷ [] else ms

-- the keys and cells of the fresh loads that name the batch, in their order
abbrev pub members : List Atom → ℕ → List (Key × ℕ)
members [] b = []
members (a ∷ before) b = add_member b (begins a) (members before b)

-- ---- what the memo holds

-- The last atom that began a cell for a key: the cell, its batch, and the atoms after it.
pub record Latest : Type 0 where
  pub cell : ℕ
  pub batch : Option ℕ
  pub after : List Atom

abbrev pub later : Atom → Option Latest → Option Latest
later a None = None
later a (Some l) = Some (record { cell = l.cell; batch = l.batch; after = a ∷ l.after })

abbrev pub latest_at : Key → Option Begun → Option Latest → Option Latest
latest_at k None rest = rest
latest_at k (Some g) rest = if key_eq g.key k then Some (record { cell = g.cell; batch = g.batch; after = [] }) else rest

abbrev pub latest : List Atom → Key → Option Latest
latest [] k = None
latest (a ∷ before) k = latest_at k (begins a) (later a (latest before k))

-- Whether an atom makes the memo forget a key, whose cell is of the batch: a clear of the key, a
-- clearAll, or the fail of that very batch.
abbrev pub forgets : Key → Option ℕ → Atom → Bool
forgets k batch (Clear j) = key_eq j k
forgets k batch ClearAll = true
forgets k batch (Fail b) = is_number b batch
forgets k batch a = false

abbrev pub cell_kept : Key → Option Latest → Option ℕ
cell_kept k None = None
cell_kept k (Some l) = if list_any (forgets k l.batch) l.after then None else Some l.cell

-- The cell that the memo holds for a key: that of the last fresh load or prime of it, if nothing forgets it after that
-- (DataLoader: the memo, clear, clearAll; kept errors stay, failed batches don't).
abbrev pub held : List Atom → Key → Option ℕ
held history k = cell_kept k (latest history k)

-- ---- which batch a fresh load goes into

-- how many batches there were before the last dispatch: these are sent
abbrev pub sent : List Atom → ℕ
sent [] = 0
sent (Dispatch js ∷ before) = begun before
sent (a ∷ before) = sent before

-- whether a list of members has one of the key
abbrev pub has_member : List (Key × ℕ) → Key → Bool
has_member ms k = list_any (λ m. key_eq k m.0) ms

-- whether the first member is of the table
abbrev pub is_of_table : List ℕ → List (Key × ℕ) → Bool
is_of_table table [] = false
is_of_table table (m ∷ ms) = bytes_eq table m.0.table

abbrev pub serves_by : Option (List (List ℕ × ℕ)) → Key → List (Key × ℕ) → Bool
serves_by None k ms = true
serves_by (Some ts) k ms = is_of_table k.table ms

-- whether a batch with these members is one for the key: any is if tables mix, else only one of its table
abbrev pub serves : Rules → Key → List (Key × ℕ) → Bool
serves rules k ms = serves_by rules.tables k ms

-- the greatest number below a bound that passes the test
abbrev pub greatest : (ℕ → Bool) → ℕ → Option ℕ
greatest test zero = None
greatest test (suc n) = if test n then Some n else greatest test n

-- whether the batch isn't sent, has fewer members than its limit, and none of the key
abbrev pub is_open : Rules → List Atom → Key → ℕ → Bool
is_open rules history k b = nat_le (sent history) b && nat_lt (length (members history b)) (limit_of rules k.table) && not (has_member (members history b) k)

abbrev pub room_in : Rules → List Atom → Key → Option ℕ → ℕ
room_in rules history k None = begun history
room_in rules history k (Some b) = if is_open rules history k b then b else begun history

-- The batch that a fresh load of the key joins: the last one for the key, if that is open, else a new one (DataLoader: maxBatchSize).
abbrev pub room : Rules → List Atom → Key → ℕ
room rules history k = room_in rules history k (greatest (λ b. serves rules k (members history b)) (begun history))

-- ---- replies

abbrev pub load_reply_at : Rules → List Atom → Key → Option ℕ → LoadReply
load_reply_at rules history k (Some c) = Hit c
load_reply_at rules history k None = Fresh (cells history) (room rules history k)

-- the reply to a load
abbrev pub load_reply : Rules → List Atom → Key → LoadReply
load_reply rules history k = load_reply_at rules history k (held history k)

abbrev pub prime_reply_at : List Atom → Option ℕ → DeskPrime
prime_reply_at history (Some c) = Kept
prime_reply_at history None = Primed (cells history)

-- the reply to a prime
abbrev pub prime_reply : List Atom → Key → DeskPrime
prime_reply history k = prime_reply_at history (held history k)

-- the job of a batch: its keys in order
abbrev pub job : List Atom → ℕ → Job
job history b = record { batch = b; keys = map (λ m. m.0) (members history b) }

-- the jobs of a number of batches, from one on
abbrev pub jobs_from : List Atom → ℕ → ℕ → List Job
jobs_from history b zero = []
jobs_from history b (suc n) = jobs_from history b n ++ job history (b + n) ∷ []

-- the reply to a dispatch: the jobs of the batches that are not sent yet
abbrev pub jobs : List Atom → List Job
jobs history = jobs_from history (sent history) (begun history - sent history)

-- ---- histories that are answered

-- how a batch ended, if it did
abbrev pub end_of : List Atom → ℕ → Option End
end_of [] b = None
end_of (Settle n ∷ before) b = if nat_eq b n then Some Settled else end_of before b
end_of (Fail n ∷ before) b = if nat_eq b n then Some Failed else end_of before b
end_of (a ∷ before) b = end_of before b

-- a batch may end if it is sent and has not ended
pub record MayEnd (history : List Atom) (b : ℕ) : Type 0 where
  pub is_sent : b < sent history
  pub no_end : end_of history b ≡ None

-- an atom has the reply that the history before it gives, and an end is of a batch that may end
abbrev pub IsAnswered : Rules → List Atom → Atom → Type 0
IsAnswered rules before (Load k r) = r ≡ load_reply rules before k
IsAnswered rules before (Prime k r) = r ≡ prime_reply before k
IsAnswered rules before (Dispatch js) = js ≡ jobs before
IsAnswered rules before (Settle b) = MayEnd before b
IsAnswered rules before (Fail b) = MayEnd before b
IsAnswered rules before a = Unit {0}

-- each atom of the history is answered as the atoms before it say
abbrev pub AllAnswered : Rules → List Atom → Type 0
AllAnswered rules [] = Unit {0}
AllAnswered rules (a ∷ before) = IsAnswered rules before a × AllAnswered rules before

-- ---- calls on several keys

-- the history with the loads of the keys, in order
abbrev pub loaded : Rules → List Atom → List Key → List Atom
loaded rules history [] = history
loaded rules history (k ∷ ks) = loaded rules (Load k (load_reply rules history k) ∷ history) ks

-- the replies to the loads of the keys, in order: those to a loadMany
abbrev pub load_replies : Rules → List Atom → List Key → List LoadReply
load_replies rules history [] = []
load_replies rules history (k ∷ ks) = load_reply rules history k ∷ load_replies rules (Load k (load_reply rules history k) ∷ history) ks

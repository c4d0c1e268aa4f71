-- What contracts see of a desk, and which histories it may have had.
use Rattle.std.specs.Prelude.{◌≡◌, ℕ, ◌<◌, Bool, List, length, Option, Some, None, slice_get, nat_lt, if◌then◌else◌}
use Rattle.std.specs.Map.{lookup}
use Rattle.dl_values.specs.Key.{Key, key_eq}
use Rattle.dl_values.specs.Limits.{Rules}
use Rattle.dl_desk.specs.History.{Atom, AllAnswered, held, cells, begun, sent, members, end_of}
use Rattle.dl_desk.specs.declared.reply.End.{End}
use Rattle.dl_desk.specs.declared.reply.End.TheVariants as end
use Rattle.dl_desk.specs.declared.reply.BatchState.{BatchState}
use Rattle.dl_desk.specs.declared.reply.BatchState.TheVariants.{Collecting, Sent, Settled, Failed}

-- a batch: its members in order, and how it ended
pub record Batch : Type 0 where
  pub members : List (Key × ℕ)
  pub end : Option End

-- The book of a desk: how many cells it has begun and how many batches it has sent, the cells that its memo holds, and
-- its batches in order.
pub record BatchBook : Type 0 where
  pub rules : Rules
  pub cells : ℕ
  pub sent : ℕ
  pub memo : List (Key × ℕ)
  pub batches : List Batch

-- the batch as the history has it
abbrev pub batch_at : List Atom → ℕ → Batch
batch_at history b = record { members = members history b; end = end_of history b }

-- The book is the one that the history leaves, and each atom of the history is answered as the atoms before it say.
pub record StandsFor (book : BatchBook) (history : List Atom) : Type 0 where
  pub answered : AllAnswered book.rules history
  pub memo : (k : Key) → lookup (key_eq k) book.memo ≡ held history k
  pub cells : book.cells ≡ cells history
  pub sent : book.sent ≡ sent history
  pub count : length book.batches ≡ begun history
  pub batches : (b : ℕ) → b < begun history → slice_get book.batches b ≡ Some (batch_at history b)

-- What contracts see of a desk: its book, and the book that it would have once it makes what it has prepared.
pub record Desk : Type 0 where
  pub book : BatchBook
  pub prepared : BatchBook

-- ---- what a desk shows of a batch

-- a batch as a desk shows it: its members in order, and how far it has come
pub record BatchView : Type 0 where
  pub members : List (Key × ℕ)
  pub state : BatchState

-- how far a batch has come, by whether it is sent and how it ended
abbrev pub state_by : Bool → Option End → BatchState
state_by is_sent (Some end.Settled) = Settled
state_by is_sent (Some end.Failed) = Failed
state_by is_sent None = if is_sent then Sent else Collecting

-- the batch as the history shows it
abbrev pub batch_view : List Atom → ℕ → BatchView
batch_view history b = record { members = members history b; state = state_by (nat_lt b (sent history)) (end_of history b) }

-- ---- which batch may end

abbrev pub end_in : Option Batch → Option End
end_in None = None
end_in (Some x) = x.end

-- how a batch of the book ended
abbrev pub end_at : BatchBook → ℕ → Option End
end_at book b = end_in (slice_get book.batches b)

-- a batch of the book may end: it is sent, and has not ended
pub record MayEndIn (book : BatchBook) (b : ℕ) : Type 0 where
  pub is_begun : b < length book.batches
  pub is_sent : b < book.sent
  pub no_end : end_at book b ≡ None

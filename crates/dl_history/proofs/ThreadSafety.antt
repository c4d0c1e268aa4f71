-- What of a history, and of what callers have of it, may cross threads. The laws of the types below that hold a JSON value are proved here, since such
-- a value is a tree of its own kind, whose laws `search` doesn't find by itself.
use denote.RattleType.{RattleType}
use denote.Ref.{NamedLft}
use denote.Struct.Field.{shr_ref_field}
use denote.Param.SendFields.{declared_send, declared_sync, as_row_send, as_row_sync}
use denote.Param.Send.{IsSend, IsSync, sendable, shr_send}
use Rattle.std.below.core.proofs.ledger.Book.TheSendSync as counts
use Rattle.std.specs.declared.sync.ledger.Ledger as ledger
use Rattle.dl_history.specs.declared.name.LoaderName as name
use Rattle.std.proofs.Crossing.{Vec-send, crosses as owners_cross}
use Rattle.std.proofs.MapsCrossing.{crosses as maps_cross}
use Rattle.serde_json.proofs.value.Value.TheLaws.TheKnot.{crosses as values_cross}
use Rattle.dl_values.proofs.key.FetchKey.TheSendSync as key
use Rattle.dl_values.proofs.message.Message.TheSendSync as message
use Rattle.dl_values.proofs.list.List.TheSendSync as list
use Rattle.dl_values.proofs.outcome.BatchFault.TheSendSync as fault
use Rattle.dl_desk.proofs.event.Reply.TheSendSync as reply
use Rattle.dl_desk.proofs.shared.Shared.TheSendSync as shared
use Rattle.dl_history.proofs.flags.Flags.TheSendSync as flags
use Rattle.dl_values.specs.contracts.json.Json as Json
use Rattle.dl_values.specs.contracts.key.FetchKey as Key
use Rattle.dl_values.specs.contracts.outcome.Outcome as Outcome
use Rattle.dl_values.specs.contracts.list.List as List
use Rattle.dl_desk.specs.contracts.shared.Shared as Shared
use Rattle.dl_desk.specs.contracts.event.Call as Call
use Rattle.dl_desk.specs.contracts.event.Event as Event
use Rattle.dl_desk.specs.contracts.event.Ending as Ending
use Rattle.dl_history.specs.contracts.cell_state.Mark as Mark
use Rattle.std.specs.contracts.alloc.Global as Heap
use Rattle.std.specs.contracts.impls.GlobalAllocator.TheImpl.{ghosts}
use Rattle.std.specs.contracts.vec.Vec as Vec
use Rattle.std.specs.contracts.sync.ledger.Book as Counts
use Rattle.dl_cells.specs.contracts.reader.Reader as Reader
use Rattle.dl_cells.specs.contracts.row.CellRow as Row
use Rattle.dl_history.specs.contracts.journal.Journal as Journal
use Rattle.dl_history.specs.contracts.journal.Journal.TheInside as journal
use Rattle.dl_history.specs.contracts.cell_rows.CellRows as CellRows
use Rattle.dl_history.specs.contracts.cell_rows.CellRows.TheInside as rows
use Rattle.dl_history.specs.contracts.cell_state.CellState as CellState
use Rattle.dl_history.specs.contracts.flags.Flags as Flags
use Rattle.dl_history.specs.contracts.ticket.Ticket as Ticket
use Rattle.dl_history.specs.contracts.ticket.Ticket.TheInside as ticket
use Rattle.dl_values.specs.contracts.limits.Limits as Limits
use Rattle.dl_values.proofs.limits.Limits.TheSendSync as limits
use Rattle.dl_cells.proofs.reader.Reader.TheSendSync as reader
use Rattle.dl_cells.proofs.row.CellRow.TheSendSync as row

pub Json-send : IsSend Json.the_row
Json-send = search (values_cross, owners_cross, maps_cross, sendable) depth 40

pub Json-sync : IsSync Json.the_row
Json-sync = search (values_cross, owners_cross, maps_cross, sendable) depth 40

pub Outcome-send : IsSend Outcome.the_row
Outcome-send = search (Json-send, owners_cross, sendable) depth 40

pub Outcome-sync : IsSync Outcome.the_row
Outcome-sync = search (Json-sync, owners_cross, sendable) depth 40

pub Outcome-field-send : IsSend Outcome.the_field.row
Outcome-field-send = search (Json-send, message.the_send, fault.the_field_send, owners_cross, sendable) depth 40

pub Outcome-field-sync : IsSync Outcome.the_field.row
Outcome-field-sync = search (Json-sync, message.the_sync, fault.the_field_sync, owners_cross, sendable) depth 40

pub Ending-send : IsSend Ending.the_row
Ending-send = search (Outcome-field-send, owners_cross, sendable) depth 40

pub Ending-sync : IsSync Ending.the_row
Ending-sync = search (Outcome-field-sync, owners_cross, sendable) depth 40

pub Keys-send : IsSend (List.the_row Key.the_row)
Keys-send = search (list.the_send, key.the_send, key.the_sync) depth 10

pub Keys-sync : IsSync (List.the_row Key.the_row)
Keys-sync = search (list.the_sync, key.the_send, key.the_sync) depth 10

pub Outcomes-send : IsSend (List.the_row Outcome.the_row)
Outcomes-send = search (list.the_send, Outcome-send, Outcome-sync) depth 10

pub Outcomes-sync : IsSync (List.the_row Outcome.the_row)
Outcomes-sync = search (list.the_sync, Outcome-send, Outcome-sync) depth 10

pub Shared-outcome-send : IsSend (Shared.the_row Outcome.the_row)
Shared-outcome-send = search (shared.the_send, Outcome-send, Outcome-sync) depth 10

pub Shared-outcome-sync : IsSync (Shared.the_row Outcome.the_row)
Shared-outcome-sync = search (shared.the_sync, Outcome-send, Outcome-sync) depth 10

pub Call-field-send : IsSend Call.the_field.row
Call-field-send = search (key.the_send, Keys-send, fault.the_field_send, Shared-outcome-send, Outcomes-send, owners_cross, sendable) depth 40 fits 20000

pub Call-field-sync : IsSync Call.the_field.row
Call-field-sync = search (key.the_sync, Keys-sync, fault.the_field_sync, Shared-outcome-sync, Outcomes-sync, owners_cross, sendable) depth 40 fits 20000

pub Event-send : IsSend Event.the_row
Event-send = search (Call-field-send, reply.the_field_send, owners_cross, sendable) depth 40

pub Event-sync : IsSync Event.the_row
Event-sync = search (Call-field-sync, reply.the_field_sync, owners_cross, sendable) depth 40

pub Ending-field-send : IsSend Ending.the_field.row
Ending-field-send = search (Outcome-field-send, owners_cross, sendable) depth 40

pub Mark-field-send : IsSend Mark.the_field.row
Mark-field-send = search (Ending-field-send, owners_cross, sendable) depth 40 fits 20000

pub CellState-send : IsSend CellState.the_row
CellState-send = search (Mark-field-send, reader.the_send, owners_cross, sendable) depth 40

pub log_sync : IsSync (Row.the_row Event.the_row)
log_sync = search (row.the_sync, Event-send, Event-sync) depth 10

pub outcomes_sync : IsSync (Row.the_row Ending.the_row)
outcomes_sync = search (row.the_sync, Ending-send, Ending-sync) depth 10

log_reader_send : IsSend (Reader.the_row Event.the_row)
log_reader_send = search (reader.the_send, Event-send, Event-sync) depth 10

module _ (T : RattleType) (n : name.Ghosts T.Denot) (l : ledger.Ghosts T.Denot) where
  counts_send : IsSend (Counts.the_row T l)
  counts_send = search (counts.the_send) depth 10

  journal_send : IsSend (journal.the_row T n l)
  journal_send = declared_send (journal.the_type T n l) (
    as_row_send (Vec.the_field (Reader.the_row Event.the_row) Heap.the_row ghosts) (Vec-send _ log_reader_send),
    (as_row_send (Vec.the_field CellState.the_row Heap.the_row ghosts) (Vec-send _ CellState-send), (as_row_send (Counts.the_field T l) counts_send, tt)),
  )

  pub Journal-send : IsSend (Journal.the_row T n l)
  Journal-send = search (journal_send, sendable) depth 10

  rows_sync : IsSync (rows.the_row T n l)
  rows_sync = declared_sync (rows.the_type T n l) (
    as_row_sync Limits.the_field (search (limits.the_sync) depth 10),
    (
      as_row_sync (Row.the_field Event.the_row) log_sync,
      (
        as_row_sync (Row.the_field Ending.the_row) outcomes_sync,
        (as_row_sync Flags.the_field flags.the_field_sync, (search (as_row_sync, sendable) depth 10, tt)),
      ),
    ),
  )

  pub CellRows-sync : IsSync (CellRows.the_row T n l)
  CellRows-sync = search (rows_sync, sendable) depth 10

module _ (T : RattleType) (n : name.Ghosts T.Denot) (l : ledger.Ghosts T.Denot) (a : NamedLft) where
  ticket_send : IsSend (ticket.the_row a T n l)
  ticket_send = declared_send (ticket.the_type a T n l) (
    as_row_send (shr_ref_field a (Row.the_row Ending.the_row) tt) (shr_send _ _ _ outcomes_sync),
    (
      search (as_row_send, sendable) depth 10,
      (
        search (as_row_send, sendable) depth 10,
        (as_row_send (Reader.the_field Ending.the_row) (search (reader.the_send) depth 10), (search (as_row_send, sendable) depth 10, tt)),
      ),
    ),
  )

  pub Ticket-send : IsSend (Ticket.the_row a T n l)
  Ticket-send = search (ticket_send, sendable) depth 10

-- What is kept of a loader may cross threads: a loader with the passes of its callers, the history that it left, and a key.
use denote.RattleType.{RattleType}
use denote.Param.SendFields.{declared_send, as_row_send}
use denote.Param.Send.{IsSend, sendable}
use Rattle.std.proofs.Crossing.{crosses as owners_cross}
use Rattle.std.specs.declared.sync.ledger.Ledger as ledger
use Rattle.std.specs.contracts.option.Option as Option
use Rattle.dl_values.proofs.key.FetchKey.TheSendSync as key
use Rattle.dl_values.specs.contracts.key.FetchKey as FetchKey
use Rattle.dl_history.specs.declared.name.LoaderName as name
use Rattle.dl_history.specs.contracts.history.History as History
use Rattle.dl_history.proofs.ThreadSafety.{CellState-send, Ending-send, Ending-sync, Event-send, Event-sync}
use Rattle.std.proofs.Crossing.{Vec-send}
use Rattle.std.specs.contracts.alloc.Global as Heap
use Rattle.std.specs.contracts.impls.GlobalAllocator.TheImpl.{ghosts}
use Rattle.std.specs.contracts.vec.Vec as Vec
use Rattle.dl_cells.proofs.reader.Reader.TheSendSync as reader
use Rattle.dl_cells.proofs.row.CellRow.TheSendSync as row
use Rattle.dl_cells.specs.contracts.reader.Reader as Reader
use Rattle.dl_cells.specs.contracts.row.CellRow as Row
use Rattle.dl_desk.proofs.desk.Desk.TheSendSync as desk
use Rattle.dl_desk.specs.contracts.desk.Desk as Desk
use Rattle.dl_desk.specs.contracts.event.Ending as Ending
use Rattle.dl_desk.specs.contracts.event.Event as Event
use Rattle.dl_history.proofs.outline.Outline.TheSendSync as outline
use Rattle.dl_history.specs.contracts.cell_state.CellState as CellState
use Rattle.dl_history.specs.contracts.cells.Cells as Cells
use Rattle.dl_history.specs.contracts.cells.Cells.TheInside as cells
use Rattle.dl_history.specs.contracts.events.Events as Events
use Rattle.dl_history.specs.contracts.events.Events.TheInside as events
use Rattle.dl_history.specs.contracts.history.History.TheInside as history
use Rattle.dl_history.specs.contracts.outline.Outline as Outline
use Rattle.dl_loader.specs.contracts.serial_loader.SerialLoader as SerialLoader
use Rattle.dl_loader.proofs.ThreadSafety.{SerialLoader-send}
use Rattle.dl_loader_c.specs.contracts.kept.Kept as Kept
use Rattle.dl_loader_c.specs.contracts.kept.Kept.TheInside as kept

log_send : IsSend (Row.the_row Event.the_row)
log_send = search (row.the_send, Event-send, Event-sync) depth 10

outcomes_send : IsSend (Row.the_row Ending.the_row)
outcomes_send = search (row.the_send, Ending-send, Ending-sync) depth 10

log_reader_send : IsSend (Reader.the_row Event.the_row)
log_reader_send = search (reader.the_send, Event-send, Event-sync) depth 10

events_send : IsSend events.the_row
events_send = declared_send events.the_type (
  as_row_send (Row.the_field Event.the_row) log_send,
  (as_row_send (Vec.the_field (Reader.the_row Event.the_row) Heap.the_row ghosts) (Vec-send _ log_reader_send), tt),
)

Events-send : IsSend Events.the_row
Events-send = search (events_send, sendable) depth 10

cells_send : IsSend cells.the_row
cells_send = declared_send cells.the_type (
  as_row_send (Row.the_field Ending.the_row) outcomes_send,
  (as_row_send (Vec.the_field CellState.the_row Heap.the_row ghosts) (Vec-send _ CellState-send), tt),
)

Cells-send : IsSend Cells.the_row
Cells-send = search (cells_send, sendable) depth 10

Outlines-send : IsSend (Vec.the_row Outline.the_row Heap.the_row ghosts)
Outlines-send = Vec-send _ (search (outline.the_send) depth 10)

history_send : IsSend history.the_row
history_send = declared_send history.the_type (
  as_row_send Events.the_field Events-send,
  (
    as_row_send Cells.the_field Cells-send,
    (
      as_row_send Desk.the_field (search (desk.the_send) depth 10),
      (as_row_send (Vec.the_field Outline.the_row Heap.the_row ghosts) Outlines-send, tt),
    ),
  ),
)

History-send : IsSend History.the_row
History-send = search (history_send, sendable) depth 10

module _ (T : RattleType) (n : name.Ghosts T.Denot) (l : ledger.Ghosts T.Denot) where
  loader_send : IsSend (SerialLoader.the_row T n l)
  loader_send = SerialLoader-send T n l

  kept_send : IsSend (kept.the_row T n l)
  kept_send = declared_send (kept.the_type T n l) (
    as_row_send (Option.the_field (SerialLoader.the_row T n l)) (search (loader_send, owners_cross, sendable) depth 20),
    (
      as_row_send (Option.the_field History.the_row) (search (History-send, owners_cross, sendable) depth 20),
      (as_row_send (Option.the_field FetchKey.the_row) (search (key.the_send, owners_cross, sendable) depth 20), tt),
    ),
  )

  pub Kept-send : IsSend (Kept.the_row T n l)
  Kept-send = search (kept_send, sendable) depth 10

-- What of a shared loader may cross threads.
use denote.RattleType.{RattleType}
use denote.Param.SendFields.{declared_send, declared_sync, as_row_send, as_row_sync}
use denote.Param.Send.{IsSend, IsSync, sendable}
use Rattle.std.specs.declared.sync.ledger.Ledger as ledger
use Rattle.dl_history.specs.declared.name.LoaderName as name
use Rattle.std.proofs.Crossing.{Vec-send, Vec-sync, crosses as owners_cross}
use Rattle.std.specs.contracts.sync.Mutex as Mutex
use Rattle.std.specs.contracts.alloc.Global as Heap
use Rattle.std.specs.contracts.impls.GlobalAllocator.TheImpl.{ghosts}
use Rattle.std.specs.contracts.vec.Vec as Vec
use Rattle.dl_desk.specs.contracts.desk.Desk as Desk
use Rattle.dl_history.specs.contracts.cell_rows.CellRows as CellRows
use Rattle.dl_history.specs.contracts.flags.KnownFlags as KnownFlags
use Rattle.dl_history.specs.contracts.journal.Journal as Journal
use Rattle.dl_loader.specs.contracts.book.Book as Book
use Rattle.dl_loader.specs.contracts.book.Book.TheInside as book
use Rattle.dl_loader.specs.contracts.loader.Loader as Loader
use Rattle.dl_loader.specs.contracts.loader.Loader.TheInside as loader
use Rattle.dl_loader.specs.contracts.turns.Turns as Turns
use Rattle.dl_loader.specs.contracts.waiter.Waiter as Waiter
use Rattle.dl_desk.proofs.desk.Desk.TheSendSync as desk
use Rattle.dl_history.proofs.flags.KnownFlags.TheSendSync as flags
use Rattle.dl_loader.proofs.turns.Turns.TheSendSync as turns
use Rattle.dl_loader.proofs.waiter.Waiter.TheSendSync as waiter
use Rattle.dl_history.proofs.ThreadSafety.{Journal-send, CellRows-sync, Ending-send, Ending-sync, Event-send, Event-sync}
use Rattle.dl_cells.proofs.row.CellRow.TheSendSync as row
use Rattle.dl_cells.specs.contracts.row.CellRow as Row
use Rattle.dl_desk.specs.contracts.event.Ending as Ending
use Rattle.dl_desk.specs.contracts.event.Event as Event
use Rattle.dl_history.proofs.flags.Flags.TheSendSync as loader_flags
use Rattle.dl_history.proofs.pass.Pass.TheSendSync as pass
use Rattle.dl_history.specs.contracts.cell_rows.CellRows.TheInside as rows
use Rattle.dl_history.specs.contracts.flags.Flags as Flags
use Rattle.dl_history.specs.contracts.pass.Pass as Pass
use Rattle.dl_loader.specs.contracts.serial_loader.SerialLoader as SerialLoader
use Rattle.dl_loader.specs.contracts.serial_loader.SerialLoader.TheInside as serial
use Rattle.dl_values.proofs.limits.Limits.TheSendSync as limits
use Rattle.dl_values.specs.contracts.limits.Limits as Limits

module _ (T : RattleType) (n : name.Ghosts T.Denot) (l : ledger.Ghosts T.Denot) where
  book_send : IsSend (book.the_row T n l)
  book_send = declared_send (book.the_type T n l) (
    as_row_send Desk.the_field (search (desk.the_send) depth 10),
    (
      as_row_send (Journal.the_field T n l) (Journal-send T n l),
      (as_row_send (KnownFlags.the_field T n l) (search (flags.the_send) depth 10), tt),
    ),
  )

  pub Book-send : IsSend (Book.the_row T n l)
  Book-send = search (book_send, sendable) depth 10

  lock_sync : IsSync (Mutex.the_row (Book.the_row T n l))
  lock_sync = search (Book-send, owners_cross) depth 10

  loader_sync : IsSync (loader.the_row T n l)
  loader_sync = declared_sync (loader.the_type T n l) (
    search (as_row_sync, sendable) depth 10,
    (
      as_row_sync (CellRows.the_field T n l) (CellRows-sync T n l),
      (
        as_row_sync (Mutex.the_field (Book.the_row T n l)) lock_sync,
        (
          as_row_sync (Vec.the_field Waiter.the_row Heap.the_row ghosts) (Vec-sync _ waiter.the_sync),
          (as_row_sync Turns.the_field turns.the_field_sync, tt),
        ),
      ),
    ),
  )

  pub Loader-sync : IsSync (Loader.the_row T n l)
  Loader-sync = search (loader_sync, sendable) depth 10

  rows_send : IsSend (rows.the_row T n l)
  rows_send = declared_send (rows.the_type T n l) (
    as_row_send Limits.the_field (search (limits.the_send) depth 10),
    (
      as_row_send (Row.the_field Event.the_row) (search (row.the_send, Event-send, Event-sync) depth 10),
      (
        as_row_send (Row.the_field Ending.the_row) (search (row.the_send, Ending-send, Ending-sync) depth 10),
        (as_row_send Flags.the_field loader_flags.the_field_send, (search (as_row_send, sendable) depth 10, tt)),
      ),
    ),
  )

  pub CellRows-send : IsSend (CellRows.the_row T n l)
  CellRows-send = search (rows_send, sendable) depth 10

  serial_send : IsSend (serial.the_row T n l)
  serial_send = declared_send (serial.the_type T n l) (
    search (as_row_send, sendable) depth 10,
    (
      as_row_send (CellRows.the_field T n l) CellRows-send,
      (
        as_row_send (Book.the_field T n l) Book-send,
        (
          as_row_send (Vec.the_field (Pass.the_row T n l) Heap.the_row ghosts) (Vec-send _ (search (pass.the_send) depth 10)),
          (search (as_row_send, sendable) depth 10, tt),
        ),
      ),
    ),
  )

  pub SerialLoader-send : IsSend (SerialLoader.the_row T n l)
  SerialLoader-send = search (serial_send, sendable) depth 10

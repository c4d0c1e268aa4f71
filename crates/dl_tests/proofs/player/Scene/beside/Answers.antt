use Rattle.std.proofs.Common.{[], ◌∷◌}
use denote.Exit.{yes}
use denote.Param.{param}
use denote.Param.Send.{param_send, arg_send, shr_send}
use denote.Ref.{ShrRef}
use denote.Struct.Tuple.{TupleAt}
use Rattle.std.proofs.Crossing.{send}
use Rattle.std.specs.contracts.alloc.Global as Heap
use Rattle.dl_loader.specs.contracts.loader.Loader as Loader
use Rattle.dl_loader.proofs.Closures.{captures_send}
use Rattle.dl_loader.proofs.ThreadSafety.{Loader-sync}
use Rattle.dl_workers.specs.contracts.queue.JobQueue as JobQueue
use Rattle.dl_workers.proofs.queue.JobQueue.TheSendSync as queue
use Rattle.dl_tests.specs.contracts.player.Worker as Worker
use Rattle.dl_tests.proofs.player.Worker.TheSendSync as worker
use Rattle.dl_tests.proofs.player.Scene.beside.Goals as goal

-- what the worker's thread is given may be sent
pub join-requires-send-F : goal.join-requires-send-F
join-requires-send-F g c κs within =
    let L = param 0 g.row.L in
    let n = g.L.LoaderName in
    let l = g.L.Ledger in
    let Ts = ShrRef _ _ (param 2 g.row.R) ∷ Heap.the_row ∷ ShrRef _ _ (Loader.the_row L n l) ∷ ShrRef _ _ (param 1 g.row.S) ∷ ShrRef _ _ JobQueue.the_row
    ∷ Worker.the_row L n l ∷ [] in
    param_send
    1 _ (arg_send
    _ yes
    (TupleAt
    _ Ts)
    (captures_send
    _ Ts (
      shr_send _ _ _ c.type_bounds.sync-R,
      (
        send,
        (
          shr_send _ _ _ (Loader-sync L n l),
          (shr_send _ _ _ c.type_bounds.sync-S, (shr_send _ _ _ queue.the_sync, (worker.the_send L n l, tt))),
        ),
      ),
    )))

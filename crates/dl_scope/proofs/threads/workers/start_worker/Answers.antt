use Rattle.std.proofs.Common.{[], ◌∷◌}
use denote.Exit.{yes}
use denote.Param.{param}
use denote.Param.Send.{param_send, arg_send, shr_send}
use denote.Ref.{ShrRef}
use denote.Struct.Tuple.{TupleAt}
use Rattle.dl_loader.proofs.Closures.{captures_send}
use Rattle.dl_scope.specs.contracts.threads.tasks.WorkerTask as WorkerTask
use Rattle.dl_scope.specs.contracts.threads.server.Server as Server
use Rattle.dl_scope.proofs.threads.tasks.WorkerTask.TheSendSync as task
use Rattle.dl_scope.proofs.ThreadSafety.{Server-sync}
use Rattle.dl_scope.proofs.threads.workers.start_worker.Goals as goal

-- what a worker's thread is given may be sent
pub spawn_with-requires-send-F : goal.spawn_with-requires-send-F
spawn_with-requires-send-F g c κs within =
    let L = param 1 g.row.L in
    let n = g.L.LoaderName in
    let l = g.L.Ledger in
    let S = param 2 g.row.S in
    let G = param 3 g.row.G in
    let shared = Server-sync L n l S G c.type_bounds.sync-S c.type_bounds.sync-G _ in
    let Ts = WorkerTask.the_row L n l ∷ ShrRef _ _ (param 4 g.row.R) ∷ ShrRef _ _ (Server.the_row _ L S G n l) ∷ [] in
    param_send 2 _ (arg_send _ yes (TupleAt _ Ts) (captures_send _ Ts
    (task.the_send L n l, (shr_send _ _ _ c.type_bounds.sync-R, (shr_send _ _ _ shared, tt)))))

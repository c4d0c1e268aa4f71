use Rattle.std.proofs.Common.{[], ◌∷◌}
use denote.Exit.{yes}
use denote.Param.{param}
use denote.Param.Send.{param_send, arg_send, shr_send}
use denote.Ref.{ShrRef}
use denote.Struct.Tuple.{TupleAt}
use Rattle.dl_loader.proofs.Closures.{captures_send}
use Rattle.dl_scope.specs.contracts.threads.tasks.PlanTask as PlanTask
use Rattle.dl_scope.specs.contracts.threads.runs.PlanRun as PlanRun
use Rattle.dl_scope.specs.contracts.threads.server.Server as Server
use Rattle.dl_scope.proofs.ThreadSafety.{PlanTask-send, PlanRun-send, Server-sync}
use Rattle.dl_scope.proofs.threads.plans.start_plan.Goals as goal

-- what a plan's thread is given may be sent, and so may what it gives back
pub spawn_with-requires-send-F : goal.spawn_with-requires-send-F
spawn_with-requires-send-F g c κs within =
    let L = param 1 g.row.L in
    let n = g.L.LoaderName in
    let l = g.L.Ledger in
    let S = param 2 g.row.S in
    let G = param 3 g.row.G in
    let shared = Server-sync L n l S G c.type_bounds.sync-S c.type_bounds.sync-G _ in
    let Ts = ShrRef _ _ (param 4 g.row.R) ∷ ShrRef _ _ (Server.the_row _ L S G n l) ∷ PlanTask.the_row L n l ∷ [] in
    param_send 2 _ (arg_send _ yes (TupleAt _ Ts) (captures_send _ Ts
    (shr_send _ _ _ c.type_bounds.sync-R, (shr_send _ _ _ shared, (PlanTask-send L n l, tt)))))

pub spawn_with-requires-send-T : goal.spawn_with-requires-send-T
spawn_with-requires-send-T g c κs within =
    let L = param 1 g.row.L in
    let n = g.L.LoaderName in
    let l = g.L.Ledger in
    param_send 3 _ (arg_send _ yes (PlanRun.the_row L n l) (PlanRun-send L n l))

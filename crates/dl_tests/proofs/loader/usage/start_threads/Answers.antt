use Rattle.std.proofs.Common.{[], ◌∷◌}
use denote.Exit.{yes}
use denote.Param.{param}
use denote.Param.Send.{param_sync, arg_sync, shr_sync}
use denote.Ref.{ShrRef}
use denote.Struct.Tuple.{TupleAt}
use Rattle.std.proofs.Crossing.{sync}
use Rattle.std.specs.contracts.alloc.Global as Heap
use Rattle.dl_values.specs.contracts.key.FetchKey as FetchKey
use Rattle.dl_values.proofs.key.FetchKey.TheSendSync as key
use Rattle.dl_loader.specs.contracts.loader.Loader as Loader
use Rattle.dl_loader.proofs.Closures.{captures_sync}
use Rattle.dl_loader.proofs.ThreadSafety.{Loader-sync}
use Rattle.dl_tests.proofs.loader.usage.start_threads.Goals as goal

-- what the threads share may be shared
pub for_each_mut-requires-sync-F : goal.for_each_mut-requires-sync-F
for_each_mut-requires-sync-F g c κs within =
    let L = param 0 g.row.L in
    let loader = Loader-sync L g.L.LoaderName g.L.Ledger in
    let Ts = ShrRef _ _ (param 2 g.row.R) ∷ ShrRef _ _ Heap.the_row ∷ ShrRef _ _ (param 1 g.row.S) ∷ ShrRef _ _
    (Loader.the_row L g.L.LoaderName g.L.Ledger) ∷ ShrRef _ _ FetchKey.the_row ∷ [] in
    param_sync
    2 _ (arg_sync
    _ yes
    (TupleAt
    _ Ts)
    (captures_sync
    _ Ts (
      shr_sync
          _ _ _
          c.type_bounds.sync-R,
      (shr_sync _ _ _ sync, (shr_sync _ _ _ c.type_bounds.sync-S, (shr_sync _ _ _ loader, (shr_sync _ _ _ key.the_sync, tt)))),
    )))

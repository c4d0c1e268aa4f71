use Rattle.std.proofs.Common.{[], ◌∷◌}
use denote.Exit.{yes}
use denote.Param.{param}
use denote.Ref.{ShrRef}
use denote.Slice.{ShrSlice}
use denote.Struct.Tuple.{TupleAt}
use denote.Param.Send.{param_sync, arg_sync, shr_sync, shr_slice_sync}
use Rattle.std.proofs.Crossing.{sync}
use Rattle.std.specs.contracts.alloc.Global as Heap
use Rattle.dl_values.specs.contracts.key.FetchKey as Key
use Rattle.dl_values.specs.contracts.list.List as List
use Rattle.dl_history.proofs.ThreadSafety.{Keys-sync}
use Rattle.dl_loader.proofs.Closures.{captures_sync}
use Rattle.dl_loader.proofs.ThreadSafety.{Loader-sync}
use Rattle.dl_loader.specs.contracts.loader.Loader as Loader
use Rattle.dl_bench.proofs.shared.load_by_each.Goals as goal

-- a closure may be called on each thread where what it captures may be shared
pub for_each_mut-requires-sync-F : goal.for_each_mut-requires-sync-F
for_each_mut-requires-sync-F g c κs within =
    let L = param 0 g.row.L in
    let n = g.L.LoaderName in
    let l = g.L.Ledger in
    let Ts = ShrRef _ _ (param 1 g.row.R) ∷ ShrRef _ _ Heap.the_row ∷ ShrRef _ _ (Loader.the_row L n l) ∷ ShrSlice _ _ (List.the_row Key.the_row) ∷ [] in
    param_sync 2 _ (arg_sync _ yes (TupleAt _ Ts) (captures_sync _ Ts (
      shr_sync _ _ _ c.type_bounds.sync-R,
      (shr_sync _ _ _ sync, (shr_sync _ _ _ (Loader-sync L n l), (shr_slice_sync _ _ _ Keys-sync, tt))),
    )))

-- What a handle owns.
use base.Fml.{Fml}
use denote.RattleType.{RattleType}
use denote.RawPtr.{Ptr}
use Rattle.std.specs.Box.Ownership.{box_owns}
use Rattle.std.specs.Global.{Global}
use Rattle.std.specs.contracts.impls.GlobalAllocator.TheImpl.{ghosts}
use Rattle.std.specs.contracts.marker.Brand as Brand
use Rattle.dl_loader_c.specs.Contents.{Contents}
use Rattle.dl_loader_c.specs.Named.{Named, name_ghosts, ledger_ghosts}
use Rattle.dl_loader_c.specs.contracts.kept.Kept.{the_row}

-- the marker type, which stands for one loader at each call
abbrev pub brand : RattleType
brand = Brand.the_row

-- a box of what is kept of the loader of this name, as a box owns it
abbrev pub kept_at : (T : RattleType) → Global → Ptr → Named → Contents → Fml
kept_at T alloc p n h = box_owns (ghosts.dealloc_token alloc) (the_row T (name_ghosts T.Denot n) (ledger_ghosts T.Denot n)) p h

-- What a handle owns.
use base.Fml.{Fml}
use denote.RawPtr.{Ptr}
use Rattle.std.specs.Box.Ownership.{box_owns}
use Rattle.std.specs.Global.{Global}
use Rattle.std.specs.contracts.impls.GlobalAllocator.TheImpl.{ghosts}
use Rattle.dl_c.specs.declared.kept_desk.KeptDesk.{KeptDesk}
use Rattle.dl_c.specs.contracts.kept_desk.KeptDesk.{the_row}

-- a box of the desk that is kept, as a box owns it
abbrev pub desk_at : Global → Ptr → KeptDesk → Fml
desk_at alloc = box_owns (ghosts.dealloc_token alloc) the_row

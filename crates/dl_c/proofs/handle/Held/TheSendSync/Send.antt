-- A place may cross threads with what it holds, since a desk and the heap may.
use mathlib.Core.Bool.{Bool, true, false}
use base.Fml.{Fml}
use base.Fraction.{full_share}
use base.Shift.{Keyless}
use mir.Raw.{raw}
use denote.Exit.{Exit, unchanged, leaves, hidden, under}
use denote.Memory.{lone}
use denote.RattleType.{RattleType}
use denote.RawPtr.{Ptr, block_ptr, null_ptr, lies_at}
use denote.Struct.Struct.{exits_of}
use denote.Struct.Owning.{shape, fields, to}
use denote.Param.Send.{IsSend, AllSend, Quiet, part_keyless, owning_send, struct_send, sendable}
use Rattle.std.proofs.Crossing as heap
use Rattle.std.proofs.alloc.Global.TheSendSync as handle
use Rattle.dl_c.specs.contracts.kept_desk.KeptDesk as Kept
use Rattle.dl_c.proofs.kept_desk.KeptDesk.TheSendSync.{the_send as kept}
use Rattle.dl_c.specs.Ownership.{desk_at}
use Rattle.dl_c_values.specs.Ownership.{owned_if}
use Rattle.dl_c.specs.contracts.handle.Held.{the_row, the_type}

quiet : {D X : Type 0} (to : D → X) (e : Exit X) → Quiet e → Quiet (hidden (under to e))
quiet to unchanged q = λ x w. tt
quiet to (leaves L l S s r₀) q = λ d. q (to d)

lies : (R : RattleType) → IsSend R → (p : Ptr) (x : R.Denot) → Keyless (lies_at R full_share p x)
lies R s (block_ptr b o) x = part_keyless R s full_share x b o
lies R s null_ptr x = tt

where_filled : (filled : Bool) (owned : Fml) → Keyless owned → Keyless (owned_if filled owned)
where_filled true owned keyless = keyless
where_filled false owned keyless = tt

pub send : IsSend the_row
send =
    let all : AllSend (fields the_type) = (search sendable, (handle.the_field_send, tt)) in
    owning_send the_type all (λ d. where_filled d.filled (desk_at d.alloc d.at d.kept)
    (lies Kept.the_row kept d.at d.kept, heap.frees.frees d.alloc (raw (lone Kept.the_row.mir)) d.at))
    (λ k. quiet (to the_type) (exits_of k (fields the_type)) ((struct_send (shape the_type) all).leaving k))

-- A `Learned` holds a name and a value that are fixed for good, and nothing of the thread that learned them.
use Rattle.std.proofs.Common.{ℕ}
use base.Shift.{Keyless}
use denote.RattleType.{RattleType}
use denote.Param.Send.{IsSend, IsSync}
use Rattle.std.specs.declared.option.Option.{Option}
use Rattle.std.specs.declared.option.Option.TheVariants.{None, Some}
use Rattle.once_cell.specs.Once.{noted}
use Rattle.dl_cells.specs.contracts.learned.Learned.{the_row}

noted_keyless : (R : RattleType) (γ : ℕ) (known : Option R.Denot) → Keyless (noted R γ known)
noted_keyless R γ None = tt
noted_keyless R γ (Some x) = tt

pub seen_send : (T : RattleType) → IsSend (the_row T)
seen_send T = record { owned = λ s vs. ((λ vss. (tt, ((λ uss. (tt, tt)), tt))), noted_keyless T s.cell s.known); leaving = λ k d w. tt }

pub seen_sync : (T : RattleType) → IsSync (the_row T)
seen_sync T = record { shared = λ s b o κ. (search tt, noted_keyless T s.cell s.known) }

-- What a `Learned` owns can be had twice, so a borrow of it gives a copy. Assumes `Logic`.
use Rattle.std.proofs.Common.{ℕ, [], ◌∷◌}
use seplogic.Ra.Ura.{Ura}
use base.Logic.{sep, wand, snd∗, apply∗}
use base.Fml.{Lft, Fml, fbor}
use base.Before.{before}
use types.Logic.{Logic, sem, lfts}
use types.Kit.{‵, raw, ◌⊛◌, later, ◌$◌, !, qed, move, drop, use1, use2, split, await, updating, now, done}
use denote.RattleType.{RattleType}
use denote.Sharing.{ShrLaws, said}
use denote.Param.Laws.{Laws}
use denote.Param.Shared.{copy_shared}
use denote.Struct.Laws.{field_copy}
use denote.Struct.Lending.{Lends, of_Lends}
use Rattle.std.specs.declared.option.Option.{Option}
use Rattle.std.specs.contracts.marker.PhantomData as marker
use Rattle.once_cell.specs.Once.{noted}
use Rattle.once_cell.proofs.Notes.{noted_twice}
use Rattle.dl_cells.specs.contracts.learned.Learned as C
use Rattle.dl_cells.proofs.learned.Learned.TheLaw.Statement.{statement}

module _ (R : RattleType) (γ : ℕ) (known : Option R.Denot) where
  abbrev P : Fml
  P = noted R γ known

  shr_laws : ShrLaws (said P)
  shr_laws = record { contraction = λ M 𝓤 𝓛 _. noted_twice 𝓛 R γ known; mono = λ M 𝓤 𝓛 κ' κ. snd∗ 𝓤 (sem 𝓛 (before κ' κ)) (sem 𝓛 P) }

  lends : {M : Type 1} {𝓤 : Ura M} (𝓛 : Logic 𝓤) (l : Lft) → Lends 𝓛 P (said P) l
  lends {M} {𝓤} 𝓛 l κ ts inc sp = let Back = 𝓛.H.⇛ (sep 𝓤 (𝓛.A.bor κ P) (lfts 𝓛 ts)) in
      qed 𝓛 (‵ (fbor κ P) ∷ raw (lfts 𝓛 ts) ∷ []) {P = 𝓛.H.⇛ (sep 𝓤 (sem 𝓛 P) (lfts 𝓛 ts))} (
      updating ! $ use2 𝓛 (later (‵ P ⊛ raw (wand 𝓤 (sem 𝓛 P) Back))) (𝓛.more.bor_acc_by κ ts P sp) $ await ! tt $ split ! $ use1 𝓛 (‵ P ⊛ ‵ P)
      (noted_twice 𝓛 R γ known) $ split ! $ move ! (0 ∷ 2 ∷ []) $
      use2 𝓛 (later (‵ (fbor κ P) ⊛ raw (lfts 𝓛 ts))) (apply∗ 𝓤 (sem 𝓛 P) Back) $ await ! tt $ split ! $ drop ! $ move ! (1 ∷ 0 ∷ []) $ now ! $ done !)

pub shares : (T : RattleType) (L : Laws T) → statement T L
shares T L = of_Lends (C.struct T) (C.the_codes T.Denot T.coded (marker.the_row T).coded) (C.the_heap T) (C.the_lent T) (λ d p. shr_laws T d.cell d.known)
    (copy_shared (marker.the_field T) (field_copy (marker.the_type T) tt), tt) (λ M 𝓤 𝓛 d p. lends T d.cell d.known 𝓛 (C.the_row T).lives)

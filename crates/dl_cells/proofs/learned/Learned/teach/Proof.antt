-- A note may own all that is known of its cell.
use Rattle.std.proofs.Common.{◌≡◌, ℕ, List, [], ◌∷◌, ◌++◌, refl, sym, subst}
use mir.Syntax.{a_type}
use mir.Val.{Val, vptr, vunit}
use mir.MapTy.{inst_fn}
use base.Logic.{SProp, ent, emp, id⊢, apply∗, all, all_e}
use base.Fml.{Lft, Share, Fml, ftrue, fsep, flft}
use prog.Wp.{WpFn}
use types.Logic.{sem}
use types.Kit.{‵, raw, ◌⊛◌, later, ◌$◌, ◌∵◌, !, qed, by, move, keep, drop, split, split3, join, fsplit, fsplit3, fjoin, suffices, use0, use1, use2, await}
use types.Kit.{rewrite, feq_i}
use types.Run.{of_opd, returns, enter, unit_lit}
use types.ByLocal.{alloc_all, pass_all, free_all, look_at, sets}
use contract.Monad.{fact, fact_i}
use contract.BorrowLft.{◌⊑◌}
use contract.Running.{tables}
use denote.Exit.{yes}
use denote.RattleType.{RattleType, owns}
use denote.Signature.{types_at, plain}
use denote.Builtin.{RefOf}
use denote.Steps.{nothing, heard}
use denote.Opens.{unhide}
use denote.Param.{param, layouts}
use denote.Triple.Walked.{Stays, stay_dropped, stay_ref, walk_of, Goes-dropped, Goes-ref}
use Rattle.std.proofs.raw_atomic.Walks.{proved_at, leaves}
use Rattle.once_cell.specs.Once.{noted}
use Rattle.once_cell.proofs.Notes as notes
use Rattle.once_cell.proofs.Notes.{Note}
use Rattle.dl_cells.proofs.Values.{Learned}
use Rattle.dl_cells.specs.contracts.learned.Learned.teach.{ended, clauses}
use Rattle.dl_cells.specs.contracts.learned.Learned.teach.Key.{name as #self}
use Rattle.dl_cells.proofs.learned.Learned.teach.Statement.{statement}
use Rattle.dl_cells.proofs.learned.Learned.teach.Code as code

pub teach_spec : {M : Type 1} → statement M
teach_spec 𝓤 𝓛 𝓜 𝓡 wired T L =
    let H = 𝓛.H in let 𝓣 = tables 𝓤 H 𝓜 𝓡 𝓡.env in let R : RattleType = param 0 T in let En = ended T in let c = clauses T 𝓛 𝓜.mem 𝓡.returns in
    let inst = layouts (a_type ∷ []) (T, tt) in let fn = inst_fn inst code.function in
    let hs : Stays
    En.signature.params
    En.kept = (stay_dropped (RefOf (0 ∷ []) tt (plain (λ _. Learned 𝓛 R)) (λ _. tt)) yes, (stay_ref (1 ∷ []) tt (plain (λ _. Note 𝓛 R)), tt)) in
    proved_at
    𝓛 En hs c
    𝓜 𝓡 (
      Goes-dropped 𝓛 3 (RefOf (0 ∷ []) tt (plain (λ _. Learned 𝓛 R)) (λ _. tt)) yes (λ κs x f. refl),
      (Goes-ref 𝓛 3 1 tt (plain (λ _. Note 𝓛 R)), tt),
    )
    (#self inst) fn (code.unfolded 𝓤 H 𝓜 𝓡 wired (T, tt)) (λ z are.
    let κs = z.0.0 in let qs = z.0.1 in let Post : Val → SProp 𝓤 = (walk_of 𝓛 En hs c).post z in let Run : List Val
    → SProp 𝓤 = λ ws. WpFn 𝓤 H 𝓣.C 𝓣.Λ fn ws Post in
    let p = z.0.3.0 in let s = p.now in
    let κ : Lft = κs.1.0 in let q : Share = qs.1.0 in let m = z.0.3.1.0 in let b : ℕ = m.ref_ptr.0 in let o : ℕ = m.ref_ptr.1 in let ν : ℕ =
    m.ghost_name in let n = m.now in
    let taught : (Note 𝓛 R).Denot = record { marker = n.marker; cell = n.cell; known = s.known } in
    let Shuts = notes.Shuts 𝓛 R κ q b o ν in let N : Fml = noted R n.cell n.known in let S : Fml = noted R n.cell s.known in
    let Vs : List Val = vptr p.ref_ptr.0 p.ref_ptr.1 ∷ vptr b o ∷ [] in
    qed 𝓛 (((‵ (flft κs.0 qs.0) ⊛ ‵ (flft κ q) ⊛ ‵ (fsep (flft κs.1.1.0 qs.1.1.0) ftrue)) ⊛ ‵ (owns (types_at En.signature.params κs) z.0.3 z.0.4)) ∷ raw
    (fact 𝓤 (κs.1.1.0 ⊑ T.lives)) ∷ raw (fact 𝓤 (n.cell ≡ s.cell)) ∷ []) ∵
    move ! (2 ∷ []) $ heard ! (n.cell ≡ s.cell) (λ same. split ! $ move ! (1 ∷ []) $ fsplit3 ! $ fsplit ! $ move ! (2 ∷ []) $ fsplit ! $ keep !
    (3 ∷ 1 ∷ 5 ∷ []) $
    -- [what self knows; the note; the tokens]
    unhide ! $ fsplit ! $ drop ! $ rewrite ! 0 (λ (j : ℕ). ‵ (noted R j s.known)) (sym same) refl $
    suffices ! (Run Vs) (subst (λ (us : List Val). ent 𝓤 (Run Vs) (Run us)) (sym (λ i. are.0.0 i ++ (are.1.0.0 i ++ []))) (id⊢ 𝓤 (Run Vs))) $
    enter ! 𝓣.C 𝓣.Λ fn Vs Post $ alloc_all ! (λ l. pass_all ! refl ((tt, tt), ((tt, tt), tt)) $
    -- the note is opened, and shut with what self knows
    move ! (2 ∷ []) $ split3 ! $ move ! (4 ∷ 1 ∷ []) $ use2 𝓛 (later (‵ N ⊛ raw (all 𝓤 Shuts))) (notes.note_opens 𝓛 R κ q b o ν n) $ await ! tt $ split ! $
    drop ! $
    use1 𝓛 (raw (Shuts taught)) (all_e 𝓤 Shuts taught) $ move ! (3 ∷ 0 ∷ []) $ use2 𝓛 (later (‵ (notes.lent 𝓛 R κ q b o ν taught) ⊛ ‵ (flft κ q)))
    (apply∗ 𝓤 (sem 𝓛 S) _) $ await ! tt $ split ! $
    feq_i ! (List Val) z.0.4.1.0 (vptr b o ∷ []) are.1.0.0 $ fjoin ! $ nothing ! $ move ! (1 ∷ 0 ∷ []) $ fjoin ! $ nothing ! $ fjoin ! $
    -- [the parameters; the note's token; self's token; the type's token]
    move ! (1 ∷ 3 ∷ []) $ join ! $ move ! (2 ∷ 0 ∷ []) $ join ! $ sets ! (of_opd ! (unit_lit !)) refl (tt, tt) $ feq_i ! (List Val) (vunit ∷ []) (vunit ∷ [])
    refl $
    use0 𝓛 (raw (fact 𝓤 (s.known ≡ s.known))) (fact_i 𝓤 (s.known ≡ s.known) (emp 𝓤) refl) $ use0 𝓛 (raw (fact 𝓤 (n.cell ≡ n.cell)))
    (fact_i 𝓤 (n.cell ≡ n.cell) (emp 𝓤) refl) $ join ! $
    returns ! (look_at ! 0 refl) $ free_all ! refl $ keep ! (2 ∷ 3 ∷ 1 ∷ 0 ∷ []) $ by ! (leaves 𝓛 En hs c z vunit tt (tt, (taught, tt)) (tt, (tt, tt))))))

-- A name has one last value.
use Rattle.std.proofs.Common.{◌≡◌, ℕ, List, [], ◌∷◌, ◌++◌, refl, sym, subst, IfSome}
use mir.Syntax.{a_type}
use mir.Val.{Val, vptr, vunit}
use mir.MapTy.{inst_fn}
use base.Logic.{SProp, ent, id⊢}
use prog.Wp.{WpFn}
use types.Kit.{‵, raw, ◌⊛◌, ◌$◌, ◌∵◌, !, qed, by, move, keep, drop, split, fsplit, fsplit3, fjoin, suffices, use2, rewrite, feq_i}
use types.Run.{of_opd, returns, enter, unit_lit}
use types.ByLocal.{alloc_all, pass_all, free_all, look_at, sets}
use contract.Monad.{fact}
use contract.BorrowLft.{◌⊑◌}
use contract.Running.{tables}
use denote.Exit.{yes}
use denote.RattleType.{RattleType, owns}
use denote.Signature.{types_at, plain}
use denote.Builtin.{RefOf}
use denote.Steps.{nothing, heard}
use denote.Opens.{unhide}
use denote.Param.{param, layouts}
use denote.Triple.Entry.{alive}
use denote.Triple.Walked.{Stays, stay_dropped, walk_of, Goes-dropped}
use Rattle.std.proofs.raw_atomic.Walks.{proved_at, leaves}
use Rattle.once_cell.specs.Once.{noted}
use Rattle.once_cell.proofs.Notes.{noted_agree}
use Rattle.dl_cells.specs.Cells.{Agrees}
use Rattle.dl_cells.proofs.Values.{Learned}
use Rattle.dl_cells.specs.contracts.learned.Learned.agrees.{ended, clauses}
use Rattle.dl_cells.specs.contracts.learned.Learned.agrees.Key.{name as #self}
use Rattle.dl_cells.proofs.learned.Learned.agrees.Statement.{statement}
use Rattle.dl_cells.proofs.learned.Learned.agrees.Code as code

pub agrees_spec : {M : Type 1} → statement M
agrees_spec 𝓤 𝓛 𝓜 𝓡 wired T L =
    let H = 𝓛.H in let 𝓣 = tables 𝓤 H 𝓜 𝓡 𝓡.env in let R : RattleType = param 0 T in let En = ended T in let c = clauses T 𝓛 𝓜.mem 𝓡.returns in
    let inst = layouts (a_type ∷ []) (T, tt) in let fn = inst_fn inst code.function in
    let hs : Stays
    En.signature.params
    En.kept = (
      stay_dropped (RefOf (0 ∷ []) tt (plain (λ _. Learned 𝓛 R)) (λ _. tt)) yes,
      (stay_dropped (RefOf (1 ∷ []) tt (plain (λ _. Learned 𝓛 R)) (λ _. tt)) yes, tt),
    ) in
    proved_at
    𝓛 En hs c
    𝓜 𝓡 (
      Goes-dropped 𝓛 3 (RefOf (0 ∷ []) tt (plain (λ _. Learned 𝓛 R)) (λ _. tt)) yes (λ κs x f. refl),
      (Goes-dropped 𝓛 3 (RefOf (1 ∷ []) tt (plain (λ _. Learned 𝓛 R)) (λ _. tt)) yes (λ κs x f. refl), tt),
    )
    (#self inst) fn (code.unfolded 𝓤 H 𝓜 𝓡 wired (T, tt)) (λ z are.
    let κs = z.0.0 in let qs = z.0.1 in let Post : Val → SProp 𝓤 = (walk_of 𝓛 En hs c).post z in let Run : List Val
    → SProp 𝓤 = λ ws. WpFn 𝓤 H 𝓣.C 𝓣.Λ fn ws Post in
    let p = z.0.3.0 in let q = z.0.3.1.0 in let s = p.now in let t = q.now in let γ : ℕ = s.cell in let So : Type 0 = IfSome t.known (Agrees s.known) in
    let Vs : List Val = vptr p.ref_ptr.0 p.ref_ptr.1 ∷ vptr q.ref_ptr.0 q.ref_ptr.1 ∷ [] in
    qed 𝓛 ((raw (alive 𝓛 En.signature κs qs) ⊛ ‵ (owns (types_at En.signature.params κs) z.0.3 z.0.4)) ∷ raw (fact 𝓤 (κs.1.1.0 ⊑ T.lives)) ∷ raw
    (fact 𝓤 (t.cell ≡ γ)) ∷ []) ∵
    move ! (2 ∷ []) $ heard ! (t.cell ≡ γ) (λ same. split ! $ move ! (1 ∷ []) $ fsplit3 ! $ fsplit ! $ move ! (2 ∷ []) $ fsplit ! $ keep ! (3 ∷ 1 ∷ 5 ∷ []) $
    -- [what the other knows; what self knows; the tokens]
    unhide ! $ fsplit ! $ drop ! $ move ! (1 ∷ []) $ unhide ! $ fsplit ! $ drop ! $ rewrite ! 0 (λ (j : ℕ). ‵ (noted R j t.known)) same refl $
    move ! (1 ∷ 0 ∷ []) $ use2 𝓛 (raw (fact 𝓤 So)) (noted_agree 𝓛 R γ s.known t.known) $
    suffices ! (Run Vs) (subst (λ (us : List Val). ent 𝓤 (Run Vs) (Run us)) (sym (λ i. are.0.0 i ++ (are.1.0.0 i ++ []))) (id⊢ 𝓤 (Run Vs))) $
    enter ! 𝓣.C 𝓣.Λ fn Vs Post $ alloc_all ! (λ l. pass_all ! refl ((tt, tt), ((tt, tt), tt)) $
    sets ! (of_opd ! (unit_lit !)) refl (tt, tt) $ feq_i ! (List Val) (vunit ∷ []) (vunit ∷ []) refl $ nothing ! $ nothing ! $ fjoin ! $ nothing ! $ fjoin ! $
    returns ! (look_at ! 0 refl) $ free_all ! refl $ keep ! (3 ∷ 0 ∷ 1 ∷ 2 ∷ []) $ by ! (leaves 𝓛 En hs c z vunit tt (tt, (tt, tt)) (tt, (tt, tt))))))

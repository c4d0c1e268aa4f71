-- `release` moves two fields, and what they own goes with them.
use mathlib.Core.Path.{◌≡◌, refl, sym, subst}
use mathlib.Core.List.{List, [], ◌∷◌, ◌++◌}
use seplogic.Ra.Ura.{Ura}
use mir.Syntax.{Fn, Args, Dict, a_type, dcons, dnil}
use mir.MapTy.{inst_fn}
use mir.Val.{Val}
use base.Logic.{SProp, ent, id⊢}
use base.Fml.{ftrue, fsep, flft}
use contract.BorrowLft.{◌⊑◌}
use prog.Memory.{Memory}
use prog.Routine.{Routine}
use prog.Wp.{WpFn, Tables}
use types.Logic.{Logic}
use contract.Monad.{Fun, fact}
use contract.Running.{tables, tables_of}
use sound.WpLaws.{WpFn-mono}
use types.Kit.{Item, ‵, raw, ◌⊛◌, ◌$◌, ◌∵◌, !, qed, by, move, drop, use1, join, split, rewrite, fsplit, fjoin, suffices, done}
use types.Part.{whole, sub, agg}
use types.Run.{stop, fld, no_more, and_then, of_opd, returns, enter}
use types.ByLocal.{alloc_all, pass_all, free_all, look_at, get, get_in, sets}
use denote.RattleType.{RattleType}
use denote.Exit.{no}
use denote.Param.{param, bounded}
use denote.Param.Laws.{Laws, param_laws}
use denote.Signature.{Slot, plain}
use denote.Steps.{nothing, heard}
use denote.Triple.Clauses.{Ended, Clauses}
use denote.Triple.Spec.{triple_of}
use denote.Triple.Table.{entered}
use denote.Triple.Walked.{says, Stays, stay_dropped, walk_of, ends_at, walk_Meets}
use Rattle.std.proofs.alloc.Calls.{Goes-blank}
use Rattle.std.proofs.BoxSteps.Form.{Bx, D, B, word, box_typed}
use Rattle.std.proofs.BoxSteps.Steps.{box_out, box_in}
use Rattle.std.specs.contracts.alloc.Global as Heap
use Rattle.std.specs.contracts.impls.GlobalAllocator.TheImpl.{ghosts}
use Rattle.dl_history.specs.declared.name.LoaderName as name
use Rattle.std.specs.declared.sync.ledger.Ledger as ledger
use Rattle.dl_loader_c.specs.Named.{Named, IsHosted, named_by, name_ghosts, ledger_ghosts}
use Rattle.dl_loader_c.proofs.KeptBox as box
use Rattle.dl_loader_c.specs.contracts.kept.Kept as Kept
use Rattle.dl_c_values.specs.contracts.box_parts.BoxParts as Parts
use Rattle.dl_loader_c.specs.contracts.handle.HeldOf as HeldOf
use Rattle.dl_loader_c.specs.contracts.handle.HeldOf.release as F
use Rattle.dl_loader_c.specs.contracts.handle.HeldOf.release.Key.{name as #self}
use Rattle.dl_loader_c.proofs.handle.HeldOf.release.Statement as stated
use Rattle.dl_loader_c.proofs.handle.HeldOf.release.Code as code

module _ (T : RattleType) (LT : Laws T) (n : name.Ghosts T.Denot) (nd : Dict) (l : ledger.Ghosts T.Denot) (ld : Dict) where
  abbrev R : RattleType
  R = param 0 T

  abbrev at_names : name.Ghosts T.Denot → ledger.Ghosts T.Denot → Bx
  at_names m k = box.E R (param_laws 0 T LT) m k

  abbrev E : Bx
  E = at_names n l

  abbrev args : Args
  args = bounded (a_type ∷ []) (T, tt) (dcons nd (dcons ld dnil))

  abbrev fn' : Fn
  fn' = inst_fn args code.function

  abbrev ended : Ended
  ended = F.ended T n nd l ld

  abbrev From : Slot 1
  From = plain (λ _. HeldOf.the_row R)

  abbrev stayed : Stays ended.signature.params ended.kept
  stayed = (stay_dropped From no, tt)

  abbrev called : Named
  called = named_by n.cells n.service l.name

  module _ {M : Type 1} {𝓤 : Ura M} (𝓛 : Logic 𝓤) (at_mem : Memory → SProp 𝓤) (run : Routine → Fun 𝓤) (𝓣 : Tables 𝓤 𝓛.H) where
    open 𝓛 use {H}

    abbrev held : Clauses 𝓤 ended
    held = F.clauses T n nd l ld 𝓛 at_mem run

    walk : (z : (walk_of 𝓛 ended stayed held).Ghost)
        → ent 𝓤 ((walk_of 𝓛 ended stayed held).pre z) (WpFn 𝓤 H 𝓣.C 𝓣.Λ fn' (z.0.4.0 ++ []) ((walk_of 𝓛 ended stayed held).post z))
    walk z =
        let κs = z.0.0 in let qs = z.0.1 in let Post = (walk_of 𝓛 ended stayed held).post z in
        let s = z.0.3.0 in
        let v : D E = record { ptr = s.at; alloc = s.alloc; value = s.kept } in
        let To = Parts.the_row (Kept.the_row R n l) Heap.the_row ghosts in
        let made : To.Denot = record { ptr = v.ptr; alloc = v.alloc; value = s.kept } in
        let ts : Item 𝓤 = ‵ (flft κs.0 qs.0) ⊛ ‵ ftrue in
        let Needs : Type 0 = IsHosted n.service l.parts × (s.name ≡ called) in
        qed 𝓛 ((ts ⊛ ‵ (fsep ((HeldOf.the_row R).own_val s z.0.4.0) ftrue)) ∷ raw (fact 𝓤 (κs.0 ⊑ T.lives)) ∷ raw (fact 𝓤 Needs) ∷ []) ∵
        move ! (2 ∷ []) $ heard ! Needs (λ needs. split ! $ move ! (1 ∷ []) $ fsplit ! $
        rewrite ! 0 (λ (k : Named). ‵ ((HeldOf.the_row R).own_val (record s { name = k }) z.0.4.0)) needs.1 refl $
        use1 𝓛 (‵ ((B (at_names (name_ghosts T.Denot called) (ledger_ghosts T.Denot called))).own_val v z.0.4.0)) (id⊢ 𝓤 _) $
        rewrite ! 0 (λ (m : name.Ghosts T.Denot). ‵ ((B (at_names m (ledger_ghosts T.Denot called))).own_val v z.0.4.0)) (sym (box.names_are n l needs.0)) refl $
        rewrite ! 0 (λ (k : ledger.Ghosts T.Denot). ‵ ((B (at_names n k)).own_val v z.0.4.0)) (sym (box.ledgers_are n l needs.0)) refl $
        box_out E ! v z.0.4.0 (λ b o hv e ws fa. box_in E ! v b o v.value e refl $
        let w = word E hv b o in
        use1 𝓛 (‵ (To.own_val made (w ∷ []))) (id⊢ 𝓤 _) $ move ! (1 ∷ []) $ drop ! $ move ! (2 ∷ []) $ drop ! $
        let Γ : List (Item 𝓤) = ‵ (To.own_val made (w ∷ [])) ∷ ts ∷ [] in
        by ! (subst (λ (us : List Val). ent 𝓤 (types.Kit.⋆ 𝓛 Γ) (WpFn 𝓤 H 𝓣.C 𝓣.Λ fn' (us ++ []) Post)) (sym ws)
        (qed 𝓛 Γ ∵ enter ! 𝓣.C 𝓣.Λ fn' (w ∷ []) _ $ alloc_all ! (λ ls. pass_all ! refl (box_typed E hv b o fa, tt) $
        sets ! (of_opd ! (get_in ! (fld ! refl (stop !)) (sub ! 0 refl (whole !)))) refl (tt, tt) $ sets !
        (of_opd ! (get_in ! (fld ! refl (stop !)) (sub ! 1 refl (whole !)))) refl fa $
        sets ! (of_opd ! (get ! refl)) refl (tt, tt) $ sets ! (agg ! (and_then ! (get ! refl) (and_then ! (get ! refl) (no_more !)))) refl
        (box_typed E hv b o fa) $ returns ! (look_at ! 0 refl) $ free_all ! refl $
        suffices ! _ (ends_at 𝓛 ended stayed held z w made (tt, tt) (tt, tt)) $ says ! refl $
        nothing ! $ nothing ! $ fjoin ! $ join ! $ move ! (1 ∷ 0 ∷ []) $ join ! $ done !)))))

pub release_spec : {M : Type 1} → stated.statement M
unfolding tables_of
release_spec 𝓤 𝓛 𝓜 𝓡 wired T LT n nd l ld met met' =
    let 𝓣 : Tables 𝓤 𝓛.H = tables_of 𝓤 𝓛.H 𝓜 (tables 𝓤 𝓛.H 𝓜 𝓡 𝓡.env) in
    let fn = fn' T LT n nd l ld in
    entered 𝓤 𝓛.H (triple_of 𝓛 (ended T LT n nd l ld).signature (F.spec T n nd l ld 𝓛 𝓜.mem 𝓡.returns)) 𝓣.C 𝓣.Λ (#self (args T LT n nd l ld)) fn
    (code.unfolded 𝓤 𝓛.H 𝓜 𝓡 wired (T, tt) nd ld)
    (walk_Meets 𝓛 (ended T LT n nd l ld) (stayed T LT n nd l ld) (Goes-blank 𝓛 1 (From T LT n nd l ld) no (λ κs x f. tt), tt)
    (held T LT n nd l ld 𝓛 𝓜.mem 𝓡.returns 𝓣) (WpFn 𝓤 𝓛.H 𝓣.C 𝓣.Λ fn) (WpFn-mono 𝓤 𝓛.H 𝓛.laws 𝓣 fn)
    (walk T LT n nd l ld 𝓛 𝓜.mem 𝓡.returns 𝓣))

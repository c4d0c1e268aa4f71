use Rattle.std.proofs.Common.{◌≡◌, ◌∙◌, ◌+◌, ◌≤◌, ap, map, refl, subst, sym, arith}
use Rattle.std.specs.Prelude.{None, Some, IfNone, IfSome, OnOk, max, option_copied}
use Rattle.std.specs.List.{AllZip}
use Rattle.std.proofs.lemmas.List.{take_all}
use Rattle.serde_json.specs.Data.{Data}
use Rattle.serde_json.specs.View.{items_of}
use Rattle.dl_terms.specs.TermAnswers.{answers, listed, listing, naming, picked, target_in, targets_in}
use Rattle.dl_terms.specs.declared.answer.Answer.TheVariants.{Value}
use Rattle.dl_terms.specs.Tree.{height_of, height_of_all, over, with_item}
use Rattle.dl_terms.specs.View.{term_view, terms_view, trees_of}
use Rattle.dl_terms.proofs.TermViews.{item_high, term_view-All, term_view-Each, term_view-Follow, term_view-Item, term_view-Object, term_view-Over, term_view-Pick}
use Rattle.dl_picture.specs.Asking.{known_of, listed_as}
use Rattle.dl_picture.specs.FaultPath.{at_item, EndsWith, MayEndWith}
use Rattle.dl_picture.specs.Seeking.{EndsInside, IsTogether, loads_of_value, value_in, value_of}
use Rattle.dl_picture.specs.TermLoads.{all_loads_at, copies_load, copy_loads, loads_at, target_loads, targets_loads}
use Rattle.dl_picture.specs.declared.origin.Met.TheVariants as met
use Rattle.dl_picture.proofs.FaultOrigins.{all_together, at_all, at_each, at_follow, at_load, at_named, at_over, at_pick, endings_add}
use Rattle.dl_picture.proofs.FaultOrigins.{named_together, over_fails, over_over, over_together, own_is}
use Rattle.dl_picture.proofs.PartAnswers.{after_part, if_ok, loads_done, loads_next, no_more, on_ok, term_view-Load}
use Rattle.dl_picture.proofs.knowledge.Knowledge.+seeking.Goals as goal

-- ---- the forms

pub seek-returns-in-Load-clause-ends : goal.seek-returns-in-Load-clause-ends
seek-returns-in-Load-clause-ends t c =
    let at = option_copied c.args.item in
    c.seek_load.ensures.ends (at_item at (term_view c.args.term.now)) (at, refl)
    (ap (λ x. at_item at (term_view x)) c.in-Load.is ∙ (ap (at_item at) (term_view-Load c.in-Load.key) ∙ at_load at c.in-Load.key))

pub seek-returns-in-Item-clause-ends : goal.seek-returns-in-Item-clause-ends
seek-returns-in-Item-clause-ends t c = c.seek_item.ensures (ap term_view c.in-Item.is ∙ term_view-Item)

pub seek-returns-in_ok-seek-in-Pick-clause-ends : goal.seek-returns-in_ok-seek-in-Pick-clause-ends
seek-returns-in_ok-seek-in-Pick-clause-ends t c =
    let at = option_copied c.args.item in
    let known = known_of c.args.self.now in
    let part = term_view c.in-Pick.part.value in
    c.seek_pick.ensures (at_item at (term_view c.args.term.now)) (at_item at part) (at, refl)
    (ap (λ x. at_item at (term_view x)) c.in-Pick.is ∙ (ap (at_item at) (term_view-Pick c.in-Pick.part c.in-Pick.field) ∙ at_pick at part c.in-Pick.field))
    (subst (λ x. MayEndWith known (at_item at (term_view x)) c.in_ok-seek-in-Pick.field-0) c.deref.ensures c.in_ok-seek-in-Pick.ensures.ends)

pub seek-returns-in_ok-seek-in-Follow-clause-ends : goal.seek-returns-in_ok-seek-in-Follow-clause-ends
seek-returns-in_ok-seek-in-Follow-clause-ends t c =
    let at = option_copied c.args.item in
    let known = known_of c.args.self.now in
    let part = term_view c.in-Follow.part.value in
    let field = c.in-Follow.field in
    let table = c.in-Follow.table in
    c.seek_follow.ensures.ends (at_item at (term_view c.args.term.now)) (at_item at part) (at, refl)
    (ap (λ x. at_item at (term_view x)) c.in-Follow.is ∙ (ap (at_item at) (term_view-Follow c.in-Follow.part field table) ∙ at_follow at part field table))
    (subst (λ x. MayEndWith known (at_item at (term_view x)) c.in_ok-seek-in-Follow.field-0) c.deref-in-Follow.ensures c.in_ok-seek-in-Follow.ensures.ends)

pub seek-returns-in_ok-seek-in-Each-clause-ends : goal.seek-returns-in_ok-seek-in-Each-clause-ends
seek-returns-in_ok-seek-in-Each-clause-ends t c =
    let at = option_copied c.args.item in
    let known = known_of c.args.self.now in
    let part = term_view c.in-Each.part.value in
    let field = c.in-Each.field in
    let table = c.in-Each.table in
    c.seek_each.ensures.ends (at_item at (term_view c.args.term.now)) (at_item at part) (at, refl)
    (ap (λ x. at_item at (term_view x)) c.in-Each.is ∙ (ap (at_item at) (term_view-Each c.in-Each.part field table) ∙ at_each at part field table))
    (subst (λ x. MayEndWith known (at_item at (term_view x)) c.in_ok-seek-in-Each.field-0) c.deref-in-Each.ensures c.in_ok-seek-in-Each.ensures.ends)

pub seek-returns-in_ok-seek-in-Over-clause-ends : goal.seek-returns-in_ok-seek-in-Over-clause-ends
seek-returns-in_ok-seek-in-Over-clause-ends t c =
    let at = option_copied c.args.item in
    let known = known_of c.args.self.now in
    let part = term_view c.in-Over.part.value in
    let body = term_view c.in-Over.body.value in
    c.seek_over.ensures.ends (at_item at (term_view c.args.term.now)) (at_item at part) (at, refl)
    (ap (λ x. at_item at (term_view x)) c.in-Over.is
    ∙ (ap (at_item at) (term_view-Over c.in-Over.part c.in-Over.body)
    ∙ (at_over at part body ∙ ap (λ x. over (at_item at part) (term_view x)) (sym c.deref-in-Over-2.ensures))))
    (subst (λ x. MayEndWith known (at_item at (term_view x)) c.in_ok-seek-in-Over.field-0) c.deref-in-Over.ensures c.in_ok-seek-in-Over.ensures.ends)

pub seek-returns-in-All-clause-ends : goal.seek-returns-in-All-clause-ends
seek-returns-in-All-clause-ends t c =
    let at = option_copied c.args.item in
    let known = known_of c.args.self.now in
    let parts = c.in-All.parts.items in
    let t = at_item at (term_view c.args.term.now) in
    let is = ap (λ x. at_item at (term_view x)) c.in-All.is ∙ (ap (at_item at) (term_view-All c.in-All.parts) ∙ at_all at parts) in
    c.seek_all.ensures.ends t (at, refl)
    (subst (λ xs. IsTogether known t listing 0 (map (λ x. at_item at (term_view x)) xs)) (sym c.as_slice.ensures.value)
    (all_together known t (map (λ x. at_item at (term_view x)) parts) is))

pub seek-returns-in-Object-clause-ends : goal.seek-returns-in-Object-clause-ends
seek-returns-in-Object-clause-ends t c =
    let at = option_copied c.args.item in
    let known = known_of c.args.self.now in
    let parts = c.in-Object.parts.items in
    let names = c.in-Object.names in
    let t = at_item at (term_view c.args.term.now) in
    let is = ap (λ x. at_item at (term_view x)) c.in-Object.is
    ∙ (ap (at_item at) (term_view-Object c.in-Object.names c.in-Object.parts) ∙ at_named at names parts) in
    c.seek_all-in-Object.ensures.ends t (at, refl)
    (subst (λ xs. IsTogether known t (naming names) 0 (map (λ x. at_item at (term_view x)) xs)) (sym c.as_slice-in-Object.ensures.value)
    (named_together known t names (map (λ x. at_item at (term_view x)) parts) is))

-- ---- an over

pub seek_over-returns-in-Ok-clause-ends : goal.seek_over-returns-in-Ok-clause-ends
seek_over-returns-in-Ok-clause-ends u c = λ t q whose is ends.
    let known = known_of c.args.self.now in
    let has = subst (EndsInside known t q) c.in-Ok.is (c.in_ok-value.ensures.ends t q whose (over_over known t q (term_view c.args.body.now) is) ends) in
    c.over_of.ensures.ends t q has whose is

pub seek_over-returns-in-Err-clause-ends : goal.seek_over-returns-in-Err-clause-ends
seek_over-returns-in-Err-clause-ends u c = λ t q whose is ends.
    let known = known_of c.args.self.now in
    subst (EndsInside known t q) c.in-Err.is (c.in_ok-value.ensures.ends t q whose (over_over known t q (term_view c.args.body.now) is) ends)

pub over_of-returns-in-Err-clause-ends : goal.over_of-returns-in-Err-clause-ends
over_of-returns-in-Err-clause-ends u c = λ t q has whose is.
    let o = c.own.result in
    over_fails (known_of c.args.self.now) t q (term_view c.args.body.now) c.args.value c.in-Err.fault o
    (own_is t c.args.term.now o whose c.own.ensures.part c.own.ensures.path) has is
    (sym c.in_ok-fault.ensures ∙ ap listed_as c.in-Err.is) c.own.ensures.fault (c.own.ensures.met ∙ ap met.Whole (c.row-whole.ensures ∙ c.in_ok-to_json.ensures))

pub over_of-returns-in_ok-endings-in-Ok-clause-ends : goal.over_of-returns-in_ok-endings-in-Ok-clause-ends
over_of-returns-in_ok-endings-in-Ok-clause-ends u c = λ t q has whose is.
    let known = known_of c.args.self.now in
    let body = term_view c.args.body.now in
    let vs = c.in-Ok.items.items in
    let ts = map (λ d. with_item d body) vs in
    let found = sym c.in_ok-fault.ensures ∙ ap listed_as c.in-Ok.is in
    let same : map (λ d. with_item d body) c.as_slice.result.now ≡ ts = ap (map (λ d. with_item d body)) c.as_slice.ensures.value in
    c.together.ensures t ts whose (over_together known t q body c.args.value vs has is found)
    (subst (λ us. IfSome c.in_ok-endings-in-Ok.endings (λ es. AllZip (EndsWith known) us es.items)) same c.in_ok-endings-in-Ok.ensures.endings)
    (subst (λ us. IfNone c.in_ok-endings-in-Ok.endings (answers known (trees_of us) ≡ None)) same c.in_ok-endings-in-Ok.ensures.waits)

pub seek_all-returns-clause-ends : goal.seek_all-returns-clause-ends
seek_all-returns-clause-ends u c = λ t whose own.
    c.together.ensures t (map (λ x. at_item (option_copied c.args.item) (term_view x)) c.args.parts.now) whose own c.in_ok-endings.ensures.endings
    c.in_ok-endings.ensures.waits

-- ---- loops

pub endings_of-loop-term-preserved : goal.endings_of-loop-term-preserved
endings_of-loop-term-preserved t c =
    let known = known_of c.args.self.now in
    let at = option_copied c.args.item in
    let terms = c.args.terms.now in
    let i = c.loop-term.term-index in
    let x = c.term-item.result in
    let h = c.loop-term.invariant in
    let next = endings_add known (λ y. at_item at (term_view y)) terms i x c.loop-term-test.true c.term-item.is c.loop-term.endings c.in_ok-seek.field-0
    c.in_ok-endings.endings h.endings h.waits c.in_ok-seek.ensures.ends c.in_ok-endings.ensures in
    record {
      endings = next.0;
      waits = next.1;
      loads = loads_next terms i x c.loop-term-test.true c.term-item.is (λ ts. all_loads_at known at (terms_view ts)) (loads_at known at (term_view x))
          (λ rest. refl) c.loop-term.asking.loads _ _ h.loads c.in_ok-seek.ensures.loads;
    }

pub endings_of-returns-clause-endings : goal.endings_of-returns-clause-endings
endings_of-returns-clause-endings t c =
    let at = option_copied c.args.item in
    subst (λ l. IfSome c.loop-term.endings (λ es. AllZip (EndsWith (known_of c.args.self.now)) (map (λ y. at_item at (term_view y)) l) es.items))
    (take_all c.loop-term.term-index c.args.terms.now (omega (arith, c.loop-term-test.false))) c.loop-term.invariant.endings

pub endings_of-returns-clause-loads : goal.endings_of-returns-clause-loads
endings_of-returns-clause-loads t c =
    loads_done c.args.terms.now c.loop-term.term-index (omega (arith, c.loop-term-test.false))
    (λ ts. all_loads_at (known_of c.args.self.now) (option_copied c.args.item) (terms_view ts)) refl c.loop-term.asking.loads _ c.loop-term.invariant.loads

pub endings_over-loop-place-preserved : goal.endings_over-loop-place-preserved
endings_over-loop-place-preserved t c =
    let known = known_of c.args.self.now in
    let body = term_view c.args.body.now in
    let items = c.args.items.now in
    let i = c.loop-place.place in
    let x = c.index-items-place.result in
    let h = c.loop-place.invariant in
    let own = loads_at known (Some x) body in
    let next = endings_add known (λ d. with_item d body) items i x c.loop-place-test.true c.index-items-place.is c.loop-place.endings c.in_ok-seek.field-0
    c.in_ok-endings.endings h.endings h.waits c.in_ok-seek.ensures.ends c.in_ok-endings.ensures in
    record {
      endings = next.0;
      waits = next.1;
      loads = loads_next items i x c.loop-place-test.true c.index-items-place.is (λ ds. copy_loads (λ d. loads_at known (Some d) body) (items_of ds)) own (λ rest. refl)
          c.loop-place.asking.loads _ _ h.loads (c.leave.ensures ∙ (c.in_ok-seek.ensures.loads ∙ ap (λ n. n + own) c.in_ok-enter.ensures));
    }

pub endings_over-returns-clause-endings : goal.endings_over-returns-clause-endings
endings_over-returns-clause-endings t c =
    let body = term_view c.args.body.now in
    subst (λ l. IfSome c.loop-place.endings (λ es. AllZip (EndsWith (known_of c.args.self.now)) (map (λ d. with_item d body) l) es.items))
    (take_all c.loop-place.place c.args.items.now (omega (arith, c.loop-place-test.false))) c.loop-place.invariant.endings

pub endings_over-returns-clause-loads : goal.endings_over-returns-clause-loads
endings_over-returns-clause-loads t c =
    let body = term_view c.args.body.now in
    loads_done c.args.items.now c.loop-place.place (omega (arith, c.loop-place-test.false))
    (λ ds. copy_loads (λ d. loads_at (known_of c.args.self.now) (Some d) body) (items_of ds)) refl c.loop-place.asking.loads _ c.loop-place.invariant.loads

-- ---- the loads

pub seek-returns-in_ok-seek-in-Pick-clause-loads : goal.seek-returns-in_ok-seek-in-Pick-clause-loads
seek-returns-in_ok-seek-in-Pick-clause-loads t c =
    let known = known_of c.args.self.now in
    let at = option_copied c.args.item in
    on_ok c.seek_pick.result _
    (c.in_ok-seek-in-Pick.ensures.loads
    ∙ (ap (λ x. c.args.asking.now.loads + loads_at known at (term_view x)) c.deref.ensures
    ∙ sym (ap (λ u. c.args.asking.now.loads + loads_at known at u) (ap term_view c.in-Pick.is ∙ term_view-Pick c.in-Pick.part c.in-Pick.field))))

pub seek-returns-in_ok-seek-in-Follow-clause-loads : goal.seek-returns-in_ok-seek-in-Follow-clause-loads
seek-returns-in_ok-seek-in-Follow-clause-loads t c =
    let known = known_of c.args.self.now in
    let at = option_copied c.args.item in
    let part = term_view c.in-Follow.part.value in
    let field = c.in-Follow.field in
    let table = c.in-Follow.table in
    let ending = c.in_ok-seek-in-Follow.field-0 in
    subst (λ u. OnOk c.seek_follow.result (c.seek_follow.new.asking.loads ≡ c.args.asking.now.loads + loads_at known at u))
    (sym (ap term_view c.in-Follow.is ∙ term_view-Follow c.in-Follow.part field table))
    (if_ok c.seek_follow.result _ _
    (λ x adds. after_part known at part ending (λ a. target_loads (target_in table (picked field a))) _ _ _
    (subst (λ x. MayEndWith known (at_item at (term_view x)) ending) c.deref-in-Follow.ensures c.in_ok-seek-in-Follow.ensures.ends) (λ f. refl)
    (c.in_ok-seek-in-Follow.ensures.loads ∙ ap (λ x. c.args.asking.now.loads + loads_at known at (term_view x)) c.deref-in-Follow.ensures) adds)
    c.seek_follow.ensures.loads)

pub seek-returns-in_ok-seek-in-Each-clause-loads : goal.seek-returns-in_ok-seek-in-Each-clause-loads
seek-returns-in_ok-seek-in-Each-clause-loads t c =
    let known = known_of c.args.self.now in
    let at = option_copied c.args.item in
    let part = term_view c.in-Each.part.value in
    let field = c.in-Each.field in
    let table = c.in-Each.table in
    let ending = c.in_ok-seek-in-Each.field-0 in
    subst (λ u. OnOk c.seek_each.result (c.seek_each.new.asking.loads ≡ c.args.asking.now.loads + loads_at known at u))
    (sym (ap term_view c.in-Each.is ∙ term_view-Each c.in-Each.part field table))
    (if_ok c.seek_each.result _ _
    (λ x adds. after_part known at part ending (λ a. targets_loads (targets_in table (picked field a))) _ _ _
    (subst (λ x. MayEndWith known (at_item at (term_view x)) ending) c.deref-in-Each.ensures c.in_ok-seek-in-Each.ensures.ends) (λ f. refl)
    (c.in_ok-seek-in-Each.ensures.loads ∙ ap (λ x. c.args.asking.now.loads + loads_at known at (term_view x)) c.deref-in-Each.ensures) adds)
    c.seek_each.ensures.loads)

pub seek-returns-in_ok-seek-in-Over-clause-loads : goal.seek-returns-in_ok-seek-in-Over-clause-loads
seek-returns-in_ok-seek-in-Over-clause-loads t c =
    let known = known_of c.args.self.now in
    let at = option_copied c.args.item in
    let part = term_view c.in-Over.part.value in
    let body = term_view c.in-Over.body.value in
    let ending = c.in_ok-seek-in-Over.field-0 in
    let same : term_view c.deref-in-Over-2.result.now ≡ body = ap term_view c.deref-in-Over-2.ensures in
    subst (λ u. OnOk c.seek_over.result (c.seek_over.new.asking.loads ≡ c.args.asking.now.loads + loads_at known at u))
    (sym (ap term_view c.in-Over.is ∙ term_view-Over c.in-Over.part c.in-Over.body))
    (if_ok c.seek_over.result _ _
    (λ x adds. after_part known at part ending (λ a. copies_load (λ d. loads_at known (Some d) body) (listed a)) _ _ _
    (subst (λ x. MayEndWith known (at_item at (term_view x)) ending) c.deref-in-Over.ensures c.in_ok-seek-in-Over.ensures.ends) (λ f. refl)
    (c.in_ok-seek-in-Over.ensures.loads ∙ ap (λ x. c.args.asking.now.loads + loads_at known at (term_view x)) c.deref-in-Over.ensures)
    (subst (λ u. c.seek_over.new.asking.loads ≡ c.seek-in-Over.new.asking.loads
    + loads_of_value (value_of ending) (λ d. copies_load (λ e. loads_at known (Some e) u) (listed (Value d)))) same adds))
    c.seek_over.ensures.loads)

pub seek-returns-in-All-clause-loads : goal.seek-returns-in-All-clause-loads
seek-returns-in-All-clause-loads t c =
    let known = known_of c.args.self.now in
    let at = option_copied c.args.item in
    let n = c.args.asking.now.loads in
    subst (λ u. OnOk c.seek_all.result (c.seek_all.new.asking.loads ≡ n + loads_at known at u)) (sym (ap term_view c.in-All.is ∙ term_view-All c.in-All.parts))
    (subst (λ xs. OnOk c.seek_all.result (c.seek_all.new.asking.loads ≡ n + all_loads_at known at (terms_view xs))) c.as_slice.ensures.value c.seek_all.ensures.loads)

pub seek-returns-in-Object-clause-loads : goal.seek-returns-in-Object-clause-loads
seek-returns-in-Object-clause-loads t c =
    let known = known_of c.args.self.now in
    let at = option_copied c.args.item in
    let n = c.args.asking.now.loads in
    let r = c.seek_all-in-Object.result in
    subst (λ u. OnOk r (c.seek_all-in-Object.new.asking.loads ≡ n + loads_at known at u))
    (sym (ap term_view c.in-Object.is ∙ term_view-Object c.in-Object.names c.in-Object.parts))
    (subst (λ xs. OnOk r (c.seek_all-in-Object.new.asking.loads ≡ n + all_loads_at known at (terms_view xs))) c.as_slice-in-Object.ensures.value
    c.seek_all-in-Object.ensures.loads)

pub seek_all-returns-clause-loads : goal.seek_all-returns-clause-loads
seek_all-returns-clause-loads u c = on_ok c.together.result _ c.in_ok-endings.ensures.loads

pub seek_over-returns-in-Ok-clause-loads : goal.seek_over-returns-in-Ok-clause-loads
seek_over-returns-in-Ok-clause-loads u c =
    let known = known_of c.args.self.now in
    let body = term_view c.args.body.now in
    subst (λ v. OnOk c.over_of.result (c.over_of.new.asking.loads ≡ c.args.asking.now.loads
    + loads_of_value v (λ d. copies_load (λ e. loads_at known (Some e) body) (listed (Value d))))) (sym (ap value_in c.in-Ok.is) ∙ c.in_ok-value.ensures.value)
    c.over_of.ensures.loads

pub seek_over-returns-in-Err-clause-loads : goal.seek_over-returns-in-Err-clause-loads
seek_over-returns-in-Err-clause-loads u c = no_more c.args.asking.now.loads (value_of c.args.part) _ (sym c.in_ok-value.ensures.value ∙ ap value_in c.in-Err.is)

pub over_of-returns-in-Err-clause-loads : goal.over_of-returns-in-Err-clause-loads
over_of-returns-in-Err-clause-loads u c =
    let copy = λ (e : Data). loads_at (known_of c.args.self.now) (Some e) (term_view c.args.body.now) in
    let none : copies_load copy (listed (Value c.args.value)) ≡ 0 = ap (copies_load copy) (sym c.in_ok-fault.ensures ∙ ap listed_as c.in-Err.is) in
    omega (arith, none)

pub over_of-returns-in_ok-endings-in-Ok-clause-loads : goal.over_of-returns-in_ok-endings-in-Ok-clause-loads
over_of-returns-in_ok-endings-in-Ok-clause-loads u c =
    let copy = λ (e : Data). loads_at (known_of c.args.self.now) (Some e) (term_view c.args.body.now) in
    let same : copies_load copy (listed (Value c.args.value)) ≡ copy_loads copy (items_of c.as_slice.result.now) =
    ap (copies_load copy) (sym c.in_ok-fault.ensures ∙ ap listed_as c.in-Ok.is) ∙ ap (λ vs. copy_loads copy (items_of vs)) (sym c.as_slice.ensures.value) in
    on_ok c.together.result _ (c.in_ok-endings-in-Ok.ensures.loads ∙ ap (λ n. c.args.asking.now.loads + n) (sym same))

-- ---- what is less high

pub endings_of-seek-requires : goal.endings_of-seek-requires
endings_of-seek-requires t c =
    let terms = c.args.terms.now in
    let low : height_of (term_view c.term-item.result) ≤ height_of_all (terms_view terms) =
    item_high terms c.loop-term.term-index c.term-item.result c.loop-term-test.true c.term-item.is in
    omega (arith, c.decreases)

pub seek-seek-requires : goal.seek-seek-requires
seek-seek-requires t c =
    let part = c.in-Pick.part.value in
    let high : height_of (term_view c.args.term.now) ≡ height_of (term_view part) + 1 = ap height_of (ap term_view c.in-Pick.is ∙ term_view-Pick c.in-Pick.part c.in-Pick.field) in
    let same : height_of (term_view c.deref.result.now) ≡ height_of (term_view part) = ap (λ x. height_of (term_view x)) c.deref.ensures in
    omega (arith, c.decreases)

pub seek-seek-requires-in-Follow : goal.seek-seek-requires-in-Follow
seek-seek-requires-in-Follow t c =
    let part = c.in-Follow.part.value in
    let high : height_of (term_view c.args.term.now) ≡ height_of (term_view part) + 1 =
    ap height_of (ap term_view c.in-Follow.is ∙ term_view-Follow c.in-Follow.part c.in-Follow.field c.in-Follow.table) in
    let same : height_of (term_view c.deref-in-Follow.result.now) ≡ height_of (term_view part) = ap (λ x. height_of (term_view x)) c.deref-in-Follow.ensures in
    omega (arith, c.decreases)

pub seek-seek-requires-in-Each : goal.seek-seek-requires-in-Each
seek-seek-requires-in-Each t c =
    let part = c.in-Each.part.value in
    let high : height_of (term_view c.args.term.now) ≡ height_of (term_view part) + 1 =
    ap height_of (ap term_view c.in-Each.is ∙ term_view-Each c.in-Each.part c.in-Each.field c.in-Each.table) in
    let same : height_of (term_view c.deref-in-Each.result.now) ≡ height_of (term_view part) = ap (λ x. height_of (term_view x)) c.deref-in-Each.ensures in
    omega (arith, c.decreases)

pub seek-seek-requires-in-Over : goal.seek-seek-requires-in-Over
seek-seek-requires-in-Over t c =
    let part = c.in-Over.part.value in
    let body = c.in-Over.body.value in
    let high : height_of (term_view c.args.term.now) ≡ max (height_of (term_view part)) (height_of (term_view body)) + 1 =
    ap height_of (ap term_view c.in-Over.is ∙ term_view-Over c.in-Over.part c.in-Over.body) in
    let same : height_of (term_view c.deref-in-Over.result.now) ≡ height_of (term_view part) = ap (λ x. height_of (term_view x)) c.deref-in-Over.ensures in
    omega (arith, c.decreases)

pub seek-seek_over-requires : goal.seek-seek_over-requires
seek-seek_over-requires t c =
    let part = c.in-Over.part.value in
    let body = c.in-Over.body.value in
    let high : height_of (term_view c.args.term.now) ≡ max (height_of (term_view part)) (height_of (term_view body)) + 1 =
    ap height_of (ap term_view c.in-Over.is ∙ term_view-Over c.in-Over.part c.in-Over.body) in
    let same : height_of (term_view c.deref-in-Over-2.result.now) ≡ height_of (term_view body) = ap (λ x. height_of (term_view x)) c.deref-in-Over-2.ensures in
    omega (arith, c.decreases)

pub seek-seek_all-requires : goal.seek-seek_all-requires
seek-seek_all-requires t c =
    let high : height_of (term_view c.args.term.now) ≡ height_of_all (terms_view c.in-All.parts.items) + 1 =
    ap height_of (ap term_view c.in-All.is ∙ term_view-All c.in-All.parts) in
    let same : height_of_all (terms_view c.as_slice.result.now) ≡ height_of_all (terms_view c.in-All.parts.items) =
    ap (λ ts. height_of_all (terms_view ts)) c.as_slice.ensures.value in
    omega (arith, c.decreases)

pub seek-seek_all-requires-in-Object : goal.seek-seek_all-requires-in-Object
seek-seek_all-requires-in-Object t c =
    let high : height_of (term_view c.args.term.now) ≡ height_of_all (terms_view c.in-Object.parts.items) + 1 =
    ap height_of (ap term_view c.in-Object.is ∙ term_view-Object c.in-Object.names c.in-Object.parts) in
    let same : height_of_all (terms_view c.as_slice-in-Object.result.now) ≡ height_of_all (terms_view c.in-Object.parts.items) =
    ap (λ ts. height_of_all (terms_view ts)) c.as_slice-in-Object.ensures.value in
    omega (arith, c.decreases)

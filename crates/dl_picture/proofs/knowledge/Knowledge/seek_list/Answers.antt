use Rattle.std.proofs.Common.{◌≡◌, ◌+◌, ap, subst, sym, arith}
use Rattle.std.specs.Prelude.{IfOk, OnOk}
use Rattle.serde_json.specs.Find.{as_array}
use Rattle.serde_json.specs.View.{items_view, view}
use Rattle.dl_terms.specs.TermAnswers.{Targets, item_targets, list_targets}
use Rattle.dl_terms.specs.declared.answer.EvalFault.TheVariants as why
use Rattle.dl_terms.proofs.Reductions.{not_many, too_many}
use Rattle.dl_picture.specs.Asking.{known_of}
use Rattle.dl_picture.specs.FaultPath.{MayEndWith}
use Rattle.dl_picture.specs.Seeking.{AreTogether}
use Rattle.dl_picture.specs.TermLoads.{each_loads, targets_loads}
use Rattle.dl_picture.proofs.FaultOrigins.{each_no_ids, each_together, own_is}
use Rattle.dl_picture.proofs.PartAnswers.{if_ok}
use Rattle.dl_picture.proofs.knowledge.Knowledge.seek_list.Goals as goal

pub returns-then-len-gt-MOST_ITEMS-clause-ends : goal.returns-then-len-gt-MOST_ITEMS-clause-ends
returns-then-len-gt-MOST_ITEMS-clause-ends c = λ t q d field has found whose is.
    let table = c.args.table.now in
    let ids = view c.args.ids.now in
    let o = c.in_ok-no_ids-in-Some.field-0 in
    let says = c.in_ok-no_ids-in-Some.ensures in
    each_no_ids (known_of c.args.self.now) t q field table d ids says.met.0 why.TooMany o (own_is t c.args.term.now o whose says.part says.path) has is found
    (too_many table (as_array ids) c.in-Some.list.now.items c.in-Some.ensures (omega (arith, c.len.ensures, c.in-Some.list.now.ok.0, c.if-len-gt-MOST_ITEMS.true)))
    says.fault says.met.1 says.met.2

pub returns-else-len-gt-MOST_ITEMS-clause-ends : goal.returns-else-len-gt-MOST_ITEMS-clause-ends
returns-else-len-gt-MOST_ITEMS-clause-ends c = λ t q d field has found whose is.
    let known = known_of c.args.self.now in
    let term = c.args.term.now in
    let table = c.args.table.now in
    let ids = view c.args.ids.now in
    let list = c.in-Some.list.now.items in
    if_ok c.seek_ids.result (AreTogether known term table list) (MayEndWith known t)
    (λ ending h. each_together known t term q field table d ids list ending whose has is found c.in-Some.ensures
    (not_many table (as_array ids) list c.in-Some.ensures (omega (arith, c.len.ensures, c.in-Some.list.now.ok.0, c.if-len-gt-MOST_ITEMS.false))) h)
    (subst (λ vs. IfOk c.seek_ids.result (AreTogether known term table vs)) c.as_slice.ensures.value c.seek_ids.ensures.together)

pub returns-in_ok-no_ids-in-None-clause-ends : goal.returns-in_ok-no_ids-in-None-clause-ends
returns-in_ok-no_ids-in-None-clause-ends c = λ t q d field has found whose is.
    let table = c.args.table.now in
    let ids = view c.args.ids.now in
    let o = c.in_ok-no_ids-in-None.field-0 in
    let says = c.in_ok-no_ids-in-None.ensures in
    each_no_ids (known_of c.args.self.now) t q field table d ids says.met.0 why.NotAList o (own_is t c.args.term.now o whose says.part says.path) has is found
    (ap (list_targets table) (sym c.in-None.ensures)) says.fault says.met.1 says.met.2

pub returns-then-len-gt-MOST_ITEMS-clause-loads : goal.returns-then-len-gt-MOST_ITEMS-clause-loads
returns-then-len-gt-MOST_ITEMS-clause-loads c =
    let table = c.args.table.now in
    let ids = as_array (view c.args.ids.now) in
    let none : targets_loads (list_targets table ids) ≡ 0 = ap targets_loads
    (too_many table ids c.in-Some.list.now.items c.in-Some.ensures (omega (arith, c.len.ensures, c.in-Some.list.now.ok.0, c.if-len-gt-MOST_ITEMS.true))) in
    omega (arith, none)

pub returns-else-len-gt-MOST_ITEMS-clause-loads : goal.returns-else-len-gt-MOST_ITEMS-clause-loads
returns-else-len-gt-MOST_ITEMS-clause-loads c =
    let table = c.args.table.now in
    let ids = as_array (view c.args.ids.now) in
    let list = c.in-Some.list.now.items in
    let few : list_targets table ids ≡ Targets.keys (item_targets table (items_view list)) =
    not_many table ids list c.in-Some.ensures (omega (arith, c.len.ensures, c.in-Some.list.now.ok.0, c.if-len-gt-MOST_ITEMS.false)) in
    subst (λ x. OnOk c.seek_ids.result (c.seek_ids.new.asking.loads ≡ c.args.asking.now.loads + targets_loads x)) (sym few)
    (subst (λ vs. OnOk c.seek_ids.result (c.seek_ids.new.asking.loads ≡ c.args.asking.now.loads + each_loads (item_targets table (items_view vs)))) c.as_slice.ensures.value
    c.seek_ids.ensures.loads)

pub returns-in_ok-no_ids-in-None-clause-loads : goal.returns-in_ok-no_ids-in-None-clause-loads
returns-in_ok-no_ids-in-None-clause-loads c =
    let table = c.args.table.now in
    let none : targets_loads (list_targets table (as_array (view c.args.ids.now))) ≡ 0 = ap (λ o. targets_loads (list_targets table o)) (sym c.in-None.ensures) in
    omega (arith, none)

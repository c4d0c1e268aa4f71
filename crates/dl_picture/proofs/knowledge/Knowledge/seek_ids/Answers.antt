use Rattle.std.proofs.Common.{◌≡◌, None, ap, subst}
use Rattle.std.specs.Prelude.{IfNone, IfSome, option_map}
use Rattle.serde_json.specs.View.{items_view}
use Rattle.dl_terms.specs.TermAnswers.{gathered, item_targets, listing, target_answers}
use Rattle.dl_picture.specs.Asking.{known_of}
use Rattle.dl_picture.specs.Seeking.{AreItems, Gathers}
use Rattle.dl_picture.proofs.FaultOrigins.{fails_first, ids_values}
use Rattle.dl_picture.proofs.knowledge.Knowledge.seek_ids.Goals as goal

pub returns-in-None-clause-together : goal.returns-in-None-clause-together
returns-in-None-clause-together c =
    let known = known_of c.args.self.now in
    ap (option_map gathered)
    (subst (λ o. IfNone o (target_answers known (item_targets c.args.table.now (items_view c.args.ids.now)) ≡ None)) c.in-None.is c.in_ok-rows_of.ensures.waits)

pub returns-in-Ok-clause-together : goal.returns-in-Ok-clause-together
returns-in-Ok-clause-together c =
    let known = known_of c.args.self.now in
    let term = c.args.term.now in
    let table = c.args.table.now in
    let ids = c.args.ids.now in
    let es = c.in-Some.rows.items in
    let are : AreItems known term table 0 ids es = subst (λ o. IfSome o (λ v. AreItems known term table 0 ids v.items)) c.in-Some.is c.in_ok-rows_of.ensures.rows in
    let g = subst (Gathers listing es) c.in-Ok.is c.in_ok-values-in-Some.ensures in
    ids_values known term table ids es g.0 c.in-Ok.values are g.1 g.2

pub returns-in-Err-clause-together : goal.returns-in-Err-clause-together
returns-in-Err-clause-together c =
    let known = known_of c.args.self.now in
    let term = c.args.term.now in
    let table = c.args.table.now in
    let ids = c.args.ids.now in
    let es = c.in-Some.rows.items in
    let are : AreItems known term table 0 ids es = subst (λ o. IfSome o (λ v. AreItems known term table 0 ids v.items)) c.in-Some.is c.in_ok-rows_of.ensures.rows in
    let g = subst (Gathers listing es) c.in-Err.is c.in_ok-values-in-Some.ensures in
    fails_first known term table ids es g.0 c.in-Err.origin g.1 are g.2

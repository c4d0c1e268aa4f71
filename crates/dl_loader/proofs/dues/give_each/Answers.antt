use Rattle.std.proofs.Common.{◌∙◌, ◌++◌, [], ◌∷◌, length, rules, length-append}
use Rattle.std.proofs.lemmas.Iterator.Adapters.{YieldsList-from_vec}
use Rattle.std.proofs.lemmas.Iterator.Consumers.{YieldsList-turn, YieldsList-so_far}
use Rattle.dl_history.specs.Journal.{refusals}
use Rattle.dl_loader.proofs.DueLemmas.{front_is, next_waits, next_inside, given_more, taken_count, refused_count, refused_next, few_next, few_still}
use Rattle.dl_loader.proofs.dues.give_each.Goals as goal

pub end-requires-clause-in_row : goal.end-requires-clause-in_row
end-requires-clause-in_row g c =
    let all = YieldsList-from_vec c.args.dues.items (search rules) (search rules) in
    let turn = YieldsList-turn all c.loop-due.yielded _ c.loop-due.yielded_by _ c.next.new.self c.in-Some.due c.in-Some.is c.next.ensures.steps in
    let front = front_is c.loop-due.yielded c.args.dues.items (YieldsList-so_far all c.loop-due.yielded _ c.loop-due.yielded_by) in
    let waits = next_waits c.args.dues.items c.loop-due.yielded c.args.journal.now.cells c.loop-due.journal.cells c.in-Some.due c.requires.can front turn.0
    turn.1 c.loop-due.invariant.given in
    next_inside c.args.dues.items c.loop-due.yielded c.args.journal.now.cells c.loop-due.journal.cells c.in-Some.due _ c.requires.fits
    c.loop-due.invariant.given waits

pub end-requires-clause-waits : goal.end-requires-clause-waits
end-requires-clause-waits g c =
    let all = YieldsList-from_vec c.args.dues.items (search rules) (search rules) in
    let turn = YieldsList-turn all c.loop-due.yielded _ c.loop-due.yielded_by _ c.next.new.self c.in-Some.due c.in-Some.is c.next.ensures.steps in
    let front = front_is c.loop-due.yielded c.args.dues.items (YieldsList-so_far all c.loop-due.yielded _ c.loop-due.yielded_by) in
    let waits = next_waits c.args.dues.items c.loop-due.yielded c.args.journal.now.cells c.loop-due.journal.cells c.in-Some.due c.requires.can front turn.0
    turn.1 c.loop-due.invariant.given in
    waits

pub loop-due-preserved-then-not-end : goal.loop-due-preserved-then-not-end
loop-due-preserved-then-not-end g c =
    let all = YieldsList-from_vec c.args.dues.items (search rules) (search rules) in
    let turn = YieldsList-turn all c.loop-due.yielded _ c.loop-due.yielded_by _ c.next.new.self c.in-Some.due c.in-Some.is c.next.ensures.steps in
    let front = front_is c.loop-due.yielded c.args.dues.items (YieldsList-so_far all c.loop-due.yielded _ c.loop-due.yielded_by) in
    let waits = next_waits c.args.dues.items c.loop-due.yielded c.args.journal.now.cells c.loop-due.journal.cells c.in-Some.due c.requires.can front turn.0
    turn.1 c.loop-due.invariant.given in
    let longer = length-append c.loop-due.yielded (c.in-Some.due ∷ []) in
    let step = refused_count c.loop-due.journal.cells c.end.new.self.cells c.in-Some.due.cell c.in-Some.due.ending waits c.if-not-end.ensures.ended in
    record {
      can_next = tt;
      is_finite = tt;
      history = c.end.ensures.history ∙ c.loop-due.invariant.history;
      given = given_more c.args.dues.items c.loop-due.yielded c.args.journal.now.cells c.loop-due.journal.cells c.end.new.self.cells c.in-Some.due c.end.result
          c.requires.can front turn.0 turn.1 c.loop-due.invariant.given c.end.ensures.ended;
      refused = refused_next (refusals c.args.journal.now.cells) (refusals c.loop-due.journal.cells) (refusals c.end.new.self.cells) c.loop-due.refused
          c.loop-due.invariant.refused step;
      few = few_next c.loop-due.refused (length c.loop-due.yielded) (length (c.loop-due.yielded ++ c.in-Some.due ∷ [])) c.loop-due.invariant.few longer;
    }

pub loop-due-preserved : goal.loop-due-preserved
loop-due-preserved g c =
    let all = YieldsList-from_vec c.args.dues.items (search rules) (search rules) in
    let turn = YieldsList-turn all c.loop-due.yielded _ c.loop-due.yielded_by _ c.next.new.self c.in-Some.due c.in-Some.is c.next.ensures.steps in
    let front = front_is c.loop-due.yielded c.args.dues.items (YieldsList-so_far all c.loop-due.yielded _ c.loop-due.yielded_by) in
    let waits = next_waits c.args.dues.items c.loop-due.yielded c.args.journal.now.cells c.loop-due.journal.cells c.in-Some.due c.requires.can front turn.0
    turn.1 c.loop-due.invariant.given in
    let longer = length-append c.loop-due.yielded (c.in-Some.due ∷ []) in
    let step = taken_count c.loop-due.journal.cells c.end.new.self.cells c.in-Some.due.cell c.in-Some.due.ending waits c.if-not-end.ensures.ended in
    record {
      can_next = tt;
      is_finite = tt;
      history = c.end.ensures.history ∙ c.loop-due.invariant.history;
      given = given_more c.args.dues.items c.loop-due.yielded c.args.journal.now.cells c.loop-due.journal.cells c.end.new.self.cells c.in-Some.due c.end.result
          c.requires.can front turn.0 turn.1 c.loop-due.invariant.given c.end.ensures.ended;
      refused = step ∙ c.loop-due.invariant.refused;
      few = few_still c.loop-due.refused (length c.loop-due.yielded) (length (c.loop-due.yielded ++ c.in-Some.due ∷ [])) c.loop-due.invariant.few longer;
    }

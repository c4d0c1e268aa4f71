use Rattle.std.proofs.Common.{rules}
use Rattle.std.proofs.lemmas.Result.{IfOk-from_err, err_from_is_err_and}
use Rattle.dl_desk.proofs.Loads.{Loaded, loading_at, loading_all, loading_accepted, loading_refused}
use Rattle.dl_desk.proofs.desk.Desk.prepare_loads.Goals as goal
use Rattle.dl_desk.proofs.desk.Desk.prepare_loads.Goals.{After-push_reserved}

pub returns-in_err-load_step-clause-fault : goal.returns-in_err-load_step-clause-fault
returns-in_err-load_step-clause-fault c =
    let p = err_from_is_err_and c.from_residual-in_err-load_step.result c.from_residual-in_err-load_step.ensures.1 in
    rw (p.1, p.2)
    (loading_refused c.args.self.now.book c.loop-key.self c.args.keys.now c.loop-key.key-index c.loop-key.replies.items c.key-item.result _
    c.loop-key-test.true c.key-item.is c.loop-key.invariant.loading c.in_err-load_step.ensures.fault)

loaded : (c : After-push_reserved) → Loaded c.loop-key.self c.load_step.new.self c.key-item.result c.in_ok-load_step.field-0.0
loaded c = record {
  shown = c.in_ok-load_step.ensures.book;
  rules = c.in_ok-load_step.ensures.rules;
  answer = c.in_ok-load_step.ensures.reply;
  stands = c.in_ok-load_step.ensures.stands;
  within = c.in_ok-load_step.ensures.within;
}

pub loop-key-preserved : goal.loop-key-preserved
loop-key-preserved c =
    let count = c.loop-key.invariant.count in
    record {
      loading = rw c.push_reserved.ensures.items (loading_at c.args.self.now.book c.loop-key.self c.load_step.new.self c.args.keys.now
          c.loop-key.key-index c.loop-key.replies.items c.key-item.result c.in_ok-load_step.field-0.0 c.loop-key-test.true c.key-item.is
          c.loop-key.invariant.loading (loaded c));
      count = search rules;
      room = rw c.push_reserved.ensures.capacity c.loop-key.invariant.room;
    }

pub returns-clause-accepted : goal.returns-clause-accepted
returns-clause-accepted c = loading_accepted c.args.self.now.book c.loop-key.self c.args.keys.now c.loop-key.replies.items
    (loading_all c.args.self.now.book c.loop-key.self c.args.keys.now c.loop-key.key-index c.loop-key.replies.items c.loop-key-test.false
    c.loop-key.invariant.loading)

pub returns-in_err-replies-clause-replies : goal.returns-in_err-replies-clause-replies
returns-in_err-replies-clause-replies c = IfOk-from_err _ _ c.from_residual.ensures.0

pub returns-in_err-replies-clause-stands : goal.returns-in_err-replies-clause-stands
returns-in_err-replies-clause-stands c = IfOk-from_err _ _ c.from_residual.ensures.0

pub returns-in_err-replies-clause-accepted : goal.returns-in_err-replies-clause-accepted
returns-in_err-replies-clause-accepted c = IfOk-from_err _ _ c.from_residual.ensures.0

pub returns-in_err-load_step-clause-replies : goal.returns-in_err-load_step-clause-replies
returns-in_err-load_step-clause-replies c = IfOk-from_err _ _ c.from_residual-in_err-load_step.ensures.0

pub returns-in_err-load_step-clause-stands : goal.returns-in_err-load_step-clause-stands
returns-in_err-load_step-clause-stands c = IfOk-from_err _ _ c.from_residual-in_err-load_step.ensures.0

pub returns-in_err-load_step-clause-accepted : goal.returns-in_err-load_step-clause-accepted
returns-in_err-load_step-clause-accepted c = IfOk-from_err _ _ c.from_residual-in_err-load_step.ensures.0

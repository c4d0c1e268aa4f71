use Rattle.std.proofs.Common.{rules}
use Rattle.dl_desk.proofs.Plays.{played_all, played_more}
use Rattle.dl_desk.proofs.desk.Desk.play.Goals as goal

pub loop-call-preserved : goal.loop-call-preserved
loop-call-preserved c =
    let count = c.loop-call.invariant.count in
    record {
      played = rw c.push_reserved.ensures.items (played_more c.args.self.now.book c.loop-call.self.book c.answer.new.self.book c.args.calls.now
          c.loop-call.call-index c.call-item.result c.loop-call.told.items c.in_ok-answer.field-0 c.loop-call-test.true c.call-item.is
          c.loop-call.invariant.played c.in_ok-answer.ensures.rules c.in_ok-answer.ensures.answer c.in_ok-answer.ensures.stands);
      count = search rules;
      room = rw c.push_reserved.ensures.capacity c.loop-call.invariant.room;
    }

pub returns-clause-answers : goal.returns-clause-answers
returns-clause-answers c = (played_all c.args.self.now.book c.loop-call.self.book c.args.calls.now c.loop-call.call-index c.loop-call.told.items
    c.loop-call-test.false c.loop-call.invariant.played).answers

pub returns-clause-stands : goal.returns-clause-stands
returns-clause-stands c = (played_all c.args.self.now.book c.loop-call.self.book c.args.calls.now c.loop-call.call-index c.loop-call.told.items
    c.loop-call-test.false c.loop-call.invariant.played).stands

use Rattle.std.proofs.Common.{rules, length, take, drop, ◌-◌}
use Rattle.std.proofs.lemmas.List.{take_rest}
use Rattle.dl_plans.proofs.Bytes.{wrote_more}
use Rattle.dl_plans.proofs.streams.write_all.Goals as goal

pub loop-at-preserved : goal.loop-at-preserved
loop-at-preserved g c = record {
  within = search rules;
  written = wrote_more (g.W.Write.contents c.args.writer.now) (g.W.Write.contents c.loop-at.writer) (g.W.Write.contents c.write.new.self) c.args.text.now
      (take (length c.args.text.now - c.loop-at.at) (drop c.loop-at.at c.args.text.now)) c.loop-at.at c.in-Ok.count (take_rest c.args.text.now c.loop-at.at)
      c.loop-at.invariant.written c.in-Ok.ensures.bytes;
}

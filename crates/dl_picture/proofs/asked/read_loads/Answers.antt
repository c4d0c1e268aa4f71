use Rattle.std.proofs.Common.{◌∙◌, sym, arith}
use Rattle.dl_picture.proofs.TermLoads.{keys_end, loads_end, loads_step}
use Rattle.dl_picture.proofs.asked.read_loads.Goals as goal

pub loop-place-preserved : goal.loop-place-preserved
loop-place-preserved c =
    let found = c.in-Some.ensures.lookup in
    sym (loads_step c.loop-place.cells.entries c.read_load.new.cells.entries c.args.keys.now c.args.replies.now c.loop-place.place c.index-keys-place.result
    c.in-Some.reply.now c.loop-place-test.true c.index-keys-place.is found.3.0 found.1 c.in_ok-read_load-in-Some.ensures)
    ∙ c.loop-place.invariant

pub returns-in-None : goal.returns-in-None
returns-in-None c =
    sym (loads_end c.loop-place.cells.entries c.args.keys.now c.args.replies.now c.loop-place.place c.in-None.ensures.lookup.3) ∙ c.loop-place.invariant

pub returns : goal.returns
returns c =
    sym (keys_end c.loop-place.cells.entries c.args.keys.now c.args.replies.now c.loop-place.place (omega (arith, c.loop-place-test.false))) ∙ c.loop-place.invariant

use Rattle.dl_loader.proofs.CloseLemmas.{least_same, least_entry, least_all}
use Rattle.dl_loader.proofs.loader.unshown.least_in.Goals as goal

pub loop-entry-init : goal.loop-entry-init
loop-entry-init g c ns found = least_same ns c.args.found found

pub loop-entry-preserved : goal.loop-entry-preserved
loop-entry-preserved g c ns found =
    least_entry c.args.journal.now.cells ns c.args.entries.now c.loop-entry.entry-index c.entry-item.result c.loop-entry.least c.least_at-least.result
    c.loop-entry-test.true c.entry-item.is (c.loop-entry.invariant ns found) c.least_at-least.ensures

pub returns : goal.returns
returns g c ns found =
    least_all c.args.journal.now.cells ns c.args.entries.now c.loop-entry.entry-index c.loop-entry.least c.loop-entry-test.false
    (c.loop-entry.invariant ns found)

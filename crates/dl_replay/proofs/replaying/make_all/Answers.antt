use Rattle.std.proofs.Common.{rules, ◌<◌, length, refl, arith}
use Rattle.std.proofs.lemmas.Option.{slice_get_read}
use Rattle.dl_replay.proofs.Lines.{one_made}
use Rattle.dl_replay.proofs.replaying.make_all.Goals as goal

pub returns-in-Err-clause-fault : goal.returns-in-Err-clause-fault
returns-in-Err-clause-fault g c =
    let low : c.loop-at.at < length c.args.calls.now = omega arith in
    let told_low : c.loop-at.at < length c.args.told.now = omega (arith, c.requires.as_many) in
    record {
      s = c.loop-at.loader;
      before = c.loop-at.invariant;
      asked = c.index-calls-at.result;
      is_asked = slice_get_read c.args.calls.now (length c.args.calls.now) c.loop-at.at c.index-calls-at.result refl low c.index-calls-at.is;
      of_host = c.index-told-at.result;
      is_told = slice_get_read c.args.told.now (length c.args.told.now) c.loop-at.at c.index-told-at.result refl told_low c.index-told-at.is;
      is_wrong = search rules;
    }

pub loop-at-preserved : goal.loop-at-preserved
loop-at-preserved g c =
    let low : c.loop-at.at < length c.args.calls.now = omega arith in
    let told_low : c.loop-at.at < length c.args.told.now = omega (arith, c.requires.as_many) in
    one_made g.L.LoaderName.service c.args.calls.now c.args.told.now c.loop-at.at c.index-calls-at.result c.index-told-at.result c.loop-at.loader
    c.make_told.new.loader c.loop-at.invariant
    (slice_get_read c.args.calls.now (length c.args.calls.now) c.loop-at.at c.index-calls-at.result refl low c.index-calls-at.is)
    (slice_get_read c.args.told.now (length c.args.told.now) c.loop-at.at c.index-told-at.result refl told_low c.index-told-at.is)
    c.in-Ok.ensures.made c.in-Ok.ensures.keeps

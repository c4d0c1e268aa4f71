use Rattle.std.proofs.Common.{rules, arith, ℕ, ◌<◌, ◌+◌, ◌≤◌, length}
use Rattle.std.proofs.lemmas.List.{length-take}
use Rattle.dl_plans.specs.declared.streams.TheConstants.{MOST_READ}
use Rattle.dl_plans.proofs.Bytes.{read_end, read_full, reads_more}
use Rattle.dl_plans.proofs.streams.read_all.Goals as goal

pub returns-in-Ok-eq0-clause-bytes : goal.returns-in-Ok-eq0-clause-bytes
returns-in-Ok-eq0-clause-bytes g c =
    let bytes = c.in-Ok-eq0.ensures.bytes in
    let some_room : 0 < length c.read.new.buf = omega (arith, length-take {A = ℕ} c.min-room.result c.loop-buffer.buffer) in
    read_end (g.R.Read.remaining c.args.reader.now) (g.R.Read.remaining c.loop-buffer.reader) (g.R.Read.remaining c.read.new.self) c.loop-buffer.bytes.items c.read.new.buf
    MOST_READ c.in-Ok-eq0.field-0 (search rules) c.loop-buffer.invariant.consumed c.in-Ok-eq0.field-0-test bytes.0 (bytes.1 c.in-Ok-eq0.field-0-test some_room)

pub returns-clause-bytes : goal.returns-clause-bytes
returns-clause-bytes g c =
    read_full (g.R.Read.remaining c.args.reader.now) (g.R.Read.remaining c.loop-buffer.reader) c.loop-buffer.bytes.items MOST_READ (search rules) c.loop-buffer.invariant.consumed

pub returns-in_err-map_err-in-Ok-clause-reads : goal.returns-in_err-map_err-in-Ok-clause-reads
returns-in_err-map_err-in-Ok-clause-reads g c =
    let fits : length c.loop-buffer.bytes.items + length c.read.new.buf ≤ MOST_READ = omega (arith, length-take {A = ℕ} c.min-room.result c.loop-buffer.buffer) in
    reads_more (g.R.Read.remaining c.args.reader.now) (g.R.Read.remaining c.loop-buffer.reader) (g.R.Read.remaining c.read.new.self)
    c.loop-buffer.bytes.items c.read.new.buf MOST_READ c.in-Ok.count fits c.loop-buffer.invariant.consumed c.in-Ok.ensures.bytes.0

use Rattle.std.proofs.Common.{rules, string_bytes, ◌≡◌, Err}
use Rattle.dl_plans.specs.Run.{IsOutput, IsRefused}
use Rattle.dl_plans.proofs.Runs.{output_all, refused_all, run_ok, run_refused, run_writes_front, front_of_none, kept_says, keeps_all}
use Rattle.dl_plans.proofs.document.run.Goals as goal

pub returns-in_err-given-clause-refused : goal.returns-in_err-given-clause-refused
returns-in_err-given-clause-refused g c =
    let same : c.from_residual-in_err-given.result ≡ Err c.in_err-given.field-0.0 = search rules in
    rw same
    (run_refused (IsRefused c.args.options) (refused_all c.args.options) (g.R.Read.remaining c.args.reader.now) c.in_ok-bytes.bytes.items
    c.in_err-given.field-0.0 c.in_ok-bytes.ensures.bytes c.in_err-given.ensures.err)

pub returns-clause-ok : goal.returns-clause-ok
returns-clause-ok g c =
    let output : IsOutput c.args.options c.in_ok-bytes.bytes.items (string_bytes c.in_ok-given.given.text) = c.in_ok-given.ensures.ok in
    run_ok (IsOutput c.args.options) (output_all c.args.options) c.write_all-written.result (g.R.Read.remaining c.args.reader.now) c.in_ok-bytes.bytes.items
    (string_bytes c.in_ok-given.given.text) (g.W.Write.contents c.args.writer.now) (g.W.Write.contents c.write_all-written.new.writer)
    c.in_ok-bytes.ensures.bytes output (rw c.as_bytes.ensures.value at c.write_all-written.ensures.ok)

pub returns-clause-write : goal.returns-clause-write
returns-clause-write g c = λ failed.
    let output : IsOutput c.args.options c.in_ok-bytes.bytes.items (string_bytes c.in_ok-given.given.text) = c.in_ok-given.ensures.ok in
    run_writes_front (IsOutput c.args.options) (output_all c.args.options) (g.R.Read.remaining c.args.reader.now) c.in_ok-bytes.bytes.items
    (string_bytes c.in_ok-given.given.text) (g.W.Write.contents c.args.writer.now) (g.W.Write.contents c.write_all-written.new.writer)
    c.in_ok-bytes.ensures.bytes output (rw c.as_bytes.ensures.value at c.write_all-written.ensures.front)

pub returns-in_err-keep_files-clause-write : goal.returns-in_err-keep_files-clause-write
returns-in_err-keep_files-clause-write g c = λ failed.
    let output : IsOutput c.args.options c.in_ok-bytes.bytes.items (string_bytes c.in_ok-given.given.text) = c.in_ok-given.ensures.ok in
    let held = g.W.Write.contents c.args.writer.now in
    run_writes_front (IsOutput c.args.options) (output_all c.args.options) (g.R.Read.remaining c.args.reader.now) c.in_ok-bytes.bytes.items
    (string_bytes c.in_ok-given.given.text) held held c.in_ok-bytes.ensures.bytes output (front_of_none held (string_bytes c.in_ok-given.given.text))

pub returns-in_err-keep_files-clause-refused : goal.returns-in_err-keep_files-clause-refused
returns-in_err-keep_files-clause-refused g c =
    let same : c.from_residual-in_err-keep_files.result ≡ Err c.in_err-keep_files.field-0.0 = search rules in
    rw same (kept_says c.args.options (g.R.Read.remaining c.args.reader.now) c.in_err-keep_files.field-0.0 c.in_err-keep_files.ensures)

pub returns-in_err-keep_files-clause-untouched : goal.returns-in_err-keep_files-clause-untouched
returns-in_err-keep_files-clause-untouched g c =
    let same : c.from_residual-in_err-keep_files.result ≡ Err c.in_err-keep_files.field-0.0 = search rules in
    rw same (λ other. keeps_all (g.W.Write.contents c.args.writer.now))

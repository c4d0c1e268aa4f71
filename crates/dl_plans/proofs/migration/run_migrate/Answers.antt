use Rattle.std.proofs.Common.{rules, string_bytes, ◌≡◌, Err}
use Rattle.dl_migration.specs.Migration.{IsMigrated}
use Rattle.dl_plans.specs.Migration.{IsNotMigrated}
use Rattle.dl_plans.proofs.Runs.{run_ok, run_writes_front, run_refused, migrated_all, not_migrated_all}
use Rattle.dl_plans.proofs.migration.run_migrate.Goals as goal

pub returns-in_err-text-clause-refused : goal.returns-in_err-text-clause-refused
returns-in_err-text-clause-refused g c =
    let same : c.from_residual-in_err-text.result ≡ Err c.in_err-text.field-0.0 = search rules in
    rw same (run_refused (IsNotMigrated c.args.target) (not_migrated_all c.args.target)
    (g.R.Read.remaining c.args.reader.now) c.in_ok-bytes.bytes.items c.in_err-text.field-0.0 c.in_ok-bytes.ensures.bytes
    (rw c.deref.ensures.value at c.in_err-text.ensures.err))

pub returns-clause-ok : goal.returns-clause-ok
returns-clause-ok g c =
    let migrated : IsMigrated c.args.target c.in_ok-bytes.bytes.items (string_bytes c.in_ok-text.text) = rw c.deref.ensures.value at c.in_ok-text.ensures.ok in
    run_ok (IsMigrated c.args.target) (migrated_all c.args.target) c.write_all.result (g.R.Read.remaining c.args.reader.now) c.in_ok-bytes.bytes.items (string_bytes c.in_ok-text.text)
    (g.W.Write.contents c.args.writer.now) (g.W.Write.contents c.write_all.new.writer) c.in_ok-bytes.ensures.bytes migrated
    (rw c.as_bytes.ensures.value at c.write_all.ensures.ok)

pub returns-clause-write : goal.returns-clause-write
returns-clause-write g c = λ failed.
    let migrated : IsMigrated c.args.target c.in_ok-bytes.bytes.items (string_bytes c.in_ok-text.text) = rw c.deref.ensures.value at c.in_ok-text.ensures.ok in
    run_writes_front (IsMigrated c.args.target) (migrated_all c.args.target) (g.R.Read.remaining c.args.reader.now) c.in_ok-bytes.bytes.items (string_bytes c.in_ok-text.text)
    (g.W.Write.contents c.args.writer.now) (g.W.Write.contents c.write_all.new.writer) c.in_ok-bytes.ensures.bytes migrated
    (rw c.as_bytes.ensures.value at c.write_all.ensures.front)

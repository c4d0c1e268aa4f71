use Rattle.std.proofs.Common.{rules, sym, subst}
use Rattle.std.proofs.lemmas.Str.{IsUtf8-string_bytes}
use Rattle.serde_json.specs.View.{view}
use Rattle.dl_migration.specs.Migration.{IsEarlier, IsUnmigrated, ReadsAs}
use Rattle.dl_migration.specs.declared.fault.MigrateFault.{MigrateFault}
use Rattle.dl_migration.proofs.Migrations.{is_late, is_migrated}
use Rattle.dl_migration.proofs.migration.migrate.Goals as goal

pub returns-clause-ok : goal.returns-clause-ok
returns-clause-ok c =
    let document = c.in_ok-document in
    let reads : ReadsAs c.args.bytes.now (view document.document) document.said =
    record { text = document.ensures.ok.0; spelled = document.ensures.ok.1; passes = document.ensures.passes } in
    let earlier : IsEarlier c.args.target (view document.document) document.said = search rules in
    is_migrated _ _ _ _ _ reads earlier (IsUtf8-string_bytes c.in_ok-text.text) c.in_ok-text.ensures.text c.in_ok-text.ensures.again

pub returns-then-not-is_earlier-clause-err : goal.returns-then-not-is_earlier-clause-err
returns-then-not-is_earlier-clause-err c =
    let document = c.in_ok-document in
    let reads : ReadsAs c.args.bytes.now (view document.document) document.said =
    record { text = document.ensures.ok.0; spelled = document.ensures.ok.1; passes = document.ensures.passes } in
    let other : IsEarlier c.args.target (view document.document) document.said → ⊥ = search rules in
    subst (λ (fault : MigrateFault). IsUnmigrated c.args.target c.args.bytes.now fault) (sym c.late.ensures)
    (is_late c.args.target c.args.bytes.now record { tree = view document.document; said = document.said; reads = reads; other = other })

use Rattle.std.proofs.Common.{◌∙◌, sym, refl}
use Rattle.serde_json.specs.View.{view, members_view}
use Rattle.serde_json.proofs.Views.{view-Object, members_view-insert_entry}
use Rattle.dl_migration.proofs.MigratedLemmas.{object_of}
use Rattle.dl_migration.proofs.migration.with_version.Goals as goal

pub returns-in_ok-insert : goal.returns-in_ok-insert
returns-in_ok-insert c =
    let is = object_of (view c.args.document.now) (members_view c.in-Some.members.now.entries) (sym c.in-Some.ensures.value) in
    view-Object c.insert.new.self
    ∙ (rw (c.in_ok-insert.ensures.entries, members_view-insert_entry, c.in_ok-name.ensures.ok, c.from.ensures, c.number.ensures, is) refl)

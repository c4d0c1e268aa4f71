use Rattle.std.proofs.Common.{◌≡◌, Bool, false, None, codes, option_map, if◌then◌else◌, ap, sym, ◌∙◌, refl}
use Rattle.serde_json.specs.Data.{Data}
use Rattle.serde_json.specs.View.{view}
use Rattle.dl_documents.specs.Inside.Top.{top_data}
use Rattle.dl_documents.specs.Inside.Trees.{object_data}
use Rattle.dl_documents.specs.Document.{is_script, items_at}
use Rattle.dl_documents.specs.Faults.{IsBadTop, LacksList, LacksTables}
use Rattle.dl_documents.proofs.TopMembers.{list_there, tables_there}
use Rattle.dl_documents.proofs.plan_files.plans_and_tables.Goals as goal

no_list : (d : Data) → is_script d ≡ false → items_at (codes "plans") d ≡ None → IsBadTop d
no_list d kind none = LacksList (ap (λ (b : Bool). items_at (if b then codes "calls" else codes "plans") d) kind ∙ none)

pub returns-in_err-tables : goal.returns-in_err-tables
returns-in_err-tables c =
    let top = c.args.top in
    rw c.from_residual.ensures
    (LacksTables c.requires.kind (tables_there top.tables (object_data top.members.items) c.requires.apart ∙ ap (option_map view) c.in_err-tables.was))

pub returns-in_err-plans : goal.returns-in_err-plans
returns-in_err-plans c =
    rw c.from_residual-in_err-plans.ensures
    (no_list (top_data c.args.top) c.requires.kind (list_there c.args.top (codes "plans") refl ∙ sym c.in_err-plans.ensures))

pub returns : goal.returns
returns c =
    let top = c.args.top in
    record {
      list = list_there top (codes "plans") refl ∙ sym c.in_ok-plans.ensures;
      tables = tables_there top.tables (object_data top.members.items) c.requires.apart ∙ ap (option_map view) c.in_ok-tables.was;
    }

use Rattle.std.proofs.Common.{List, ap, sym, ◌∙◌}
use Rattle.serde_json.proofs.Views.{view-Array}
use Rattle.serde_json.specs.Data.{array}
use Rattle.serde_json.specs.View.{items_view}
use Rattle.serde_json.specs.declared.value.Value.{Value}
use Rattle.serde_json.specs.declared.value.Value.TheVariants.{Array}
use Rattle.dl_documents.proofs.OverDatabase.{read_with}
use Rattle.dl_documents.proofs.top.read_as.Goals as goal

pub returns-then-lacks_tables-clause-data : goal.returns-then-lacks_tables-clause-data
returns-then-lacks_tables-clause-data c =
    read_with c.args.top (Array c.new.result) c.args.has_database c.lacks_tables.result (sym c.lacks_tables.ensures) c.if-lacks_tables.true
    c.if-has_database.true (view-Array c.new.result ∙ ap (λ (items : List Value). array (items_view items)) c.new.ensures.items)

use Rattle.std.proofs.Common.{ap, ◌∙◌, ◌++◌, ◌∷◌, [], refl, string_bytes}
use Rattle.dl_values.specs.TableLimits.{lists}
use Rattle.dl_source.specs.Tables.{named}
use Rattle.dl_source.proofs.Lookups.{named-insert}
use Rattle.dl_source.proofs.tables.Tables.add.Goals as goal

pub returns : goal.returns
returns c =
    let name = string_bytes c.args.name in
    ap named c.in_ok-insert.ensures.entries
    ∙ named-insert c.self.inside.tables c.args.name name refl c.args.table (ap (lists name) c.self.view_is ∙ c.requires)
    ∙ ap (λ ts. ts ++ (name, c.args.table) ∷ []) c.self.view_is

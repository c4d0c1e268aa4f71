use Rattle.std.proofs.Common.{◌≡◌, true, not, ap, sym, ◌∙◌, is_some, ◌++◌, ◌∷◌, [], refl, string_bytes}
use Rattle.dl_values.specs.TableLimits.{lists}
use Rattle.dl_source.specs.Tables.{named}
use Rattle.dl_source.proofs.Lookups.{lists-get, named-insert}
use Rattle.dl_source.proofs.Repeats.{not_swap, was_new}
use Rattle.dl_source.proofs.tables.Table.add.Goals as goal

pub returns-clause-found : goal.returns-clause-found
returns-clause-found c =
    not_swap _ _ c.is_none.ensures
    ∙ ap (λ o. not (is_some o)) c.in_ok-insert.ensures.old
    ∙ ap not (sym (lists-get c.self.inside.findings c.args.id (string_bytes c.args.id) refl))
    ∙ ap (λ es. not (lists (string_bytes c.args.id) es)) c.self.view_is

pub returns-clause-added : goal.returns-clause-added
returns-clause-added c = λ is_new.
    let id = string_bytes c.args.id in
    let added : c.is_none.result ≡ true = cc in
    let listed = lists-get c.self.inside.findings c.args.id id refl in
    let found = not_swap _ _ c.is_none.ensures ∙ ap (λ o. not (is_some o)) c.in_ok-insert.ensures.old ∙ ap not (sym listed) in
    let new = was_new (lists id (named c.self.inside.findings.entries)) (sym added ∙ found) in
    ap named c.in_ok-insert.ensures.entries
    ∙ named-insert c.self.inside.findings c.args.id id refl c.args.finding new
    ∙ ap (λ es. es ++ (id, c.args.finding) ∷ []) c.self.view_is

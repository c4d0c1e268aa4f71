use Rattle.std.proofs.Common.{◌≡◌, false, ◌++◌, ◌∷◌, [], ap, sym, ◌∙◌, ok_or, string_bytes}
use Rattle.dl_values.specs.TableLimits.{lists, repeats}
use Rattle.dl_source.specs.declared.fault.TableFault.TheVariants.{DuplicateKey}
use Rattle.dl_source.proofs.Repeats.{kept_true, kept_rows}
use Rattle.dl_source.proofs.tables.Tables.add_listed.Goals as goal

pub add-requires : goal.add-requires
add-requires c = ap (λ t. lists t.0 c.args.self.now) (sym c.into_parts-name.ensures) ∙ c.requires.name

pub returns-clause-ok : goal.returns-clause-ok
returns-clause-ok c =
    let parts = c.into_parts-name.ensures in
    let kept = c.in_ok-table-2.ensures.value ∙ ap (λ o. ok_or o DuplicateKey) c.in_ok-table.ensures in
    let once : repeats c.args.listed.findings ≡ false = ap (λ t. repeats t.1) parts ∙ kept_true _ _ _ _ kept in
    let rows = kept_rows _ _ _ _ kept in (
      c.in_ok-add.ensures
          ∙ ap (λ x. c.args.self.now ++ (string_bytes c.into_parts-name.result.0, x) ∷ []) rows
          ∙ ap (λ t. c.args.self.now ++ t ∷ []) (sym parts),
      once,
    )

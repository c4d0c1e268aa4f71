-- The columns pass if the rest does.
use Rattle.std.proofs.Common.{◌≡◌, drop}
use Rattle.std.specs.List.{list_all}
use Rattle.dl_sqlite.specs.Form.{has_json_kind}
use Rattle.dl_sqlite.proofs.form.other_column.Given as goal

abbrev pub invariant-loop-column : goal.invariant-loop-column
invariant-loop-column l = list_all (λ c. has_json_kind c.kind) (drop l.column-index l.columns) ≡ list_all (λ c. has_json_kind c.kind) l.columns

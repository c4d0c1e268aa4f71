-- The members so far, with those of the other columns, are all.
use Rattle.std.proofs.Common.{◌≡◌, drop}
use Rattle.serde_json.specs.Data.{no_members}
use Rattle.serde_json.specs.View.{members_view}
use Rattle.dl_sqlite.specs.Rows.{HaveJson, with_columns}
use Rattle.dl_sqlite.proofs.row.members.Given as goal

abbrev pub invariant-loop-at : goal.invariant-loop-at
invariant-loop-at l = record {
  json : with_columns l.table l.row l.at (drop l.at l.table.columns) (members_view l.members.entries) ≡ with_columns l.table l.row 0 l.table.columns no_members;
  whole : HaveJson l.table l.row l.at (drop l.at l.table.columns) → HaveJson l.table l.row 0 l.table.columns;
}

-- The names so far, with those of the tables that are left, are those of all.
use Rattle.std.proofs.Common.{◌≡◌, ◌||◌, ℕ, List, drop}
use Rattle.std.specs.HashSet.{contains_text}
use Rattle.serde_json.specs.View.{items_view}
use Rattle.dl_plans.specs.JoinedTables.{any_named}
use Rattle.dl_plans.proofs.table_names.add_names.Given as goal

abbrev pub invariant-loop-table : goal.invariant-loop-table
invariant-loop-table l = (name : List ℕ) → (contains_text l.names name || any_named name (items_view (drop l.table-index l.tables)))
    ≡ (contains_text l.initial.names name || any_named name (items_view l.tables))

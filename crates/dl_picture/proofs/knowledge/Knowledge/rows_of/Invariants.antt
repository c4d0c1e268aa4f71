-- The rows so far are those of the ids so far, unless one waits, and the ids left ask for the rest of the loads.
use Rattle.std.proofs.Common.{◌≡◌, ◌+◌, None, drop, take}
use Rattle.std.specs.Prelude.{IfNone, IfSome}
use Rattle.serde_json.specs.View.{items_view}
use Rattle.dl_terms.specs.TermAnswers.{item_targets, target_answers}
use Rattle.dl_picture.specs.Asking.{known_of}
use Rattle.dl_picture.specs.Seeking.{AreItems}
use Rattle.dl_picture.specs.TermLoads.{each_loads}
use Rattle.dl_picture.proofs.knowledge.Knowledge.rows_of.Given as goal

abbrev pub invariant-loop-place : goal.invariant-loop-place
invariant-loop-place l = record {
  rows : IfSome l.rows (λ rows. AreItems (known_of l.self) l.term l.table 0 (take l.place l.ids) rows.items);
  waits : IfNone l.rows (target_answers (known_of l.self) (item_targets l.table (items_view l.ids)) ≡ None);
  loads : l.asking.loads + each_loads (item_targets l.table (items_view (drop l.place l.ids)))
      ≡ l.initial.asking.loads + each_loads (item_targets l.table (items_view l.ids));
}

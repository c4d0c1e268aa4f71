-- The nodes so far stand for the ids so far, and the rest of the ids adds what is wanted yet.
use Rattle.std.proofs.Common.{◌≡◌, take, drop}
use Rattle.std.specs.List.{AllZip}
use Rattle.indexmap.specs.IndexSet.{insert_all}
use Rattle.serde_json.specs.View.{view, items_view}
use Rattle.dl_values.specs.Key.{key_eq}
use Rattle.dl_terms.specs.TermAnswers.{value_target, item_targets, each_target_waits}
use Rattle.dl_terms.specs.Node.{node_view}
use Rattle.dl_terms.specs.Asked.{known_of, pairs_of, wanted_of}
use Rattle.dl_terms.specs.Inside.Exploration.{LoadsTarget}
use Rattle.dl_terms.proofs.target.load_ids.Given as goal

abbrev pub invariant-loop-id : goal.invariant-loop-id
invariant-loop-id l = record {
  pairs : pairs_of l.asked ≡ pairs_of l.initial.asked;
  stand : AllZip (λ v n. LoadsTarget (known_of l.initial.asked) (value_target l.table (view v)) (node_view n)) (take l.id-index l.ids) l.nodes.items;
  wanted : insert_all key_eq (wanted_of l.asked) (each_target_waits (known_of l.initial.asked) (item_targets l.table (items_view (drop l.id-index l.ids))))
      ≡ insert_all key_eq (wanted_of l.initial.asked) (each_target_waits (known_of l.initial.asked) (item_targets l.table (items_view l.ids)));
}

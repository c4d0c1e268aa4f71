-- The parts so far stand for what they were, and the parts left add what is wanted yet. What is left of a chain means the same.
use Rattle.std.proofs.Common.{◌≡◌, take, drop, vec_len}
use Rattle.std.specs.List.{AllZip}
use Rattle.indexmap.specs.IndexSet.{insert_all}
use Rattle.dl_values.specs.Key.{key_eq}
use Rattle.dl_terms.specs.TermAnswers.{all_wait, answer, waits}
use Rattle.dl_terms.specs.Node.{framed, node_view, nodes_view, result_of}
use Rattle.dl_terms.specs.Asked.{known_of, pairs_of, wanted_of}
use Rattle.dl_terms.specs.Reduction.{MeansSame, Reduces}
use Rattle.dl_terms.proofs.exploration.+exploring.Given as goal

abbrev pub invariant-explore_all-loop-place : goal.invariant-explore_all-loop-place
invariant-explore_all-loop-place l = record {
  unvisited : goal.unvisited-explore_all-loop-place l;
  pairs : pairs_of l.asked ≡ pairs_of l.initial.asked;
  reduced : AllZip (λ n m. Reduces (known_of l.initial.asked) (node_view n) (node_view m)) (take l.place l.initial.parts.items) (take l.place l.parts.items);
  wanted : insert_all key_eq (wanted_of l.asked) (all_wait (known_of l.initial.asked) (nodes_view (drop l.place l.initial.parts.items)))
      ≡ insert_all key_eq (wanted_of l.initial.asked) (all_wait (known_of l.initial.asked) (nodes_view l.initial.parts.items));
}

abbrev pub invariant-climb-loop-answer : goal.invariant-climb-loop-answer
invariant-climb-loop-answer l = record {
  pairs : pairs_of l.asked ≡ pairs_of l.fn.asked;
  means : MeansSame (known_of l.fn.asked) (framed l.fn.frames.items (node_view l.fn.part)) (framed l.frames.items (node_view l.part));
  settled : result_of (node_view l.part) ≡ answer (known_of l.fn.asked) (node_view l.part);
  wanted : wanted_of l.asked ≡ insert_all key_eq (wanted_of l.fn.asked) (waits (known_of l.fn.asked) (node_view l.part));
}

abbrev pub decreases-climb-loop-answer : goal.decreases-climb-loop-answer
decreases-climb-loop-answer l = vec_len l.frames

-- The frames counted and the frames left are those of the whole term, as far as a `usize` counts.
use Rattle.std.proofs.Common.{◌≡◌, ◌+◌, ◌-◌, ◌^◌, ◌≤◌, min}
use Rattle.dl_terms.specs.View.{term_view}
use Rattle.dl_terms.specs.Node.{frames_around}
use Rattle.dl_terms.proofs.node.count_frames.Given as goal

abbrev pub invariant-loop-term : goal.invariant-loop-term
invariant-loop-term l = record {
  whole : min (l.count + frames_around (term_view l.term)) (2 ^ 64 - 1) ≡ min (frames_around (term_view l.fn.term)) (2 ^ 64 - 1);
  counted : l.count ≤ 2 ^ 64 - 1;
}

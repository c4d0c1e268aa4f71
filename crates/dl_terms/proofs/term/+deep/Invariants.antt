-- The greatest of the parts seen and the parts left is that of all parts, as far as a `u32` counts.
use Rattle.std.proofs.Common.{◌≡◌, ◌-◌, ◌^◌, ◌≤◌, min, max, drop}
use Rattle.dl_terms.specs.Tree.{depth_of_all}
use Rattle.dl_terms.specs.View.{terms_view}
use Rattle.dl_terms.proofs.term.+deep.Given as goal

abbrev pub invariant-deepest-loop-part : goal.invariant-deepest-loop-part
invariant-deepest-loop-part l = record {
  greatest : min (max l.most (depth_of_all (terms_view (drop l.part-index l.part-items)))) (2 ^ 32 - 1) ≡ min (depth_of_all (terms_view l.part-items))
      (2 ^ 32 - 1);
  counted : l.most ≤ 2 ^ 32 - 1;
}

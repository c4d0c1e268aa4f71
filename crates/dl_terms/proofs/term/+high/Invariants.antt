-- The greatest of the parts seen and the parts left is that of all parts, as far as a `u32` counts.
use Rattle.std.proofs.Common.{◌≡◌, ◌-◌, ◌^◌, ◌≤◌, min, max, drop}
use Rattle.dl_terms.specs.Tree.{height_of_all}
use Rattle.dl_terms.specs.View.{terms_view}
use Rattle.dl_terms.proofs.term.+high.Given as goal

abbrev pub invariant-highest-loop-part : goal.invariant-highest-loop-part
invariant-highest-loop-part l = record {
  greatest : min (max l.most (height_of_all (terms_view (drop l.part-index l.part-items)))) (2 ^ 32 - 1) ≡ min (height_of_all (terms_view l.part-items))
      (2 ^ 32 - 1);
  counted : l.most ≤ 2 ^ 32 - 1;
}

use Rattle.std.proofs.Common.{◌≡◌, ◌∙◌, ◌++◌, ◌∷◌, [], length, ap, sym, arith}
use Rattle.std.specs.Vec.Iter.{into_iter_items}
use Rattle.std.proofs.lemmas.List.{append-nil, nil_from_length}
use Rattle.dl_picture.proofs.FaultOrigins.{fault_behind_values, left_next, values_next}
use Rattle.dl_picture.proofs.seeking.gathered.Goals as goal

pub loop-ending-preserved : goal.loop-ending-preserved
loop-ending-preserved c =
    let h = c.loop-ending.invariant in
    let steps = c.in-Some.ensures.steps in
    let fewer : length (into_iter_items c.loop-ending.ending-iterator) ≡ length (c.in-Some.ending ∷ into_iter_items c.next.new.self) = ap length steps.0 in
    record {
      left = left_next c.args.endings.items c.loop-ending.yielded (into_iter_items c.loop-ending.ending-iterator) (into_iter_items c.next.new.self) c.in-Some.ending
          h.left steps.0;
      long = omega (arith, steps.1, h.long, fewer);
      values = values_next c.loop-ending.yielded c.loop-ending.values.items c.push.new.self.items c.in-Some.ending c.in-Ok.value h.values c.in-Ok.is
          c.in_ok-push-in-Ok.ensures.items;
    }

pub returns-in-Err : goal.returns-in-Err
returns-in-Err c =
    let h = c.loop-ending.invariant in
    let rest = into_iter_items c.next.new.self in
    let are : c.args.endings.items ≡ c.loop-ending.yielded ++ (c.in-Some.ending ∷ rest) = h.left ∙ ap (λ l. c.loop-ending.yielded ++ l) c.in-Some.ensures.steps.0 in (
      c.loop-ending.values.items,
      rest,
      fault_behind_values c.args.endings.items c.loop-ending.yielded rest c.loop-ending.values.items c.in-Some.ending c.in-Err.origin are h.values c.in-Err.is,
      omega (arith, c.len-in-Err.ensures, c.loop-ending.values.ok.0),
    )

pub returns : goal.returns
returns c =
    let h = c.loop-ending.invariant in
    let none : into_iter_items c.loop-ending.ending-iterator ≡ [] = nil_from_length _ (sym h.long ∙ c.in-None.ensures.steps.0) in
    let are : c.args.endings.items ≡ c.loop-ending.yielded = h.left ∙ (ap (λ l. c.loop-ending.yielded ++ l) none ∙ append-nil c.loop-ending.yielded) in
    (c.loop-ending.values.items, are ∙ h.values, c.in_ok-joined.ensures)

use Rattle.std.proofs.Common.{◌≡◌, ◌∷◌, [], List, length, refl, sym, ap, subst, ◌∙◌, append_assoc, append-nil, arith, rules}
use Rattle.std.proofs.Common.{to_z, of_z, FitsSigned}
use Rattle.std.proofs.lemmas.Int.{to_z-of_z}
use mir.Syntax.{w128}
use Rattle.std.specs.Vec.Iter.{into_iter_items}
use Rattle.dl_source.specs.declared.table_number.TableNumber.{TableNumber}
use Rattle.dl_documents.specs.Faults.{IsOutside}
use Rattle.dl_documents.specs.Inside.OwnLimits.{AreAsLimits}
use Rattle.dl_documents.proofs.AsLimits.{as_limits_more}
use Rattle.dl_documents.proofs.table_limits.as_limits.Goals as goal

nothing_left : {X : Type 0} (xs : List X) → length xs ≡ 0 → xs ≡ []
nothing_left [] h = refl
nothing_left (x ∷ xs) h = absurd (omega arith)

pub loop-own-preserved : goal.loop-own-preserved
loop-own-preserved c =
    let l = c.loop-own in
    let n : TableNumber = c.in-Some.own in
    let steps : into_iter_items l.own-iterator ≡ n ∷ into_iter_items c.next.new.self = c.in-Some.ensures.steps.0 in
    let fits : FitsSigned w128 c.in-Some.own.number = search rules in
    let same : to_z w128 (of_z w128 c.in-Some.own.number) ≡ c.in-Some.own.number = to_z-of_z w128 c.in-Some.own.number fits in
    record {
      order = append_assoc l.yielded (n ∷ []) _ ∙ rw (← steps) l.invariant.order;
      so_far = rw c.in_ok-push.ensures.items (as_limits_more l.yielded l.limits.items n _ l.invariant.so_far (record {
        table = refl;
        inside = λ is. sym same ∙ c.limit-limit.ensures.inside is;
        outside = λ is. subst IsOutside same (c.limit-limit.ensures.outside is);
      }));
      count = (
          let was = l.invariant.count in
          let gone = c.in-Some.ensures.steps.1 in
          let short = ap length steps in
          omega arith);
    }

pub returns : goal.returns
returns c =
    let l = c.loop-own in
    let none = c.in-None.ensures.steps in
    let empty : into_iter_items l.own-iterator ≡ [] = nothing_left _ (sym l.invariant.count ∙ none.0) in
    let all = sym (append-nil l.yielded) ∙ rw empty at l.invariant.order ∙ c.into_iter-own-iterator.ensures.into_iter_gives.0 in
    subst (λ (ns : List TableNumber). AreAsLimits ns l.limits.items) all l.invariant.so_far

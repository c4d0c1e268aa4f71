use Rattle.std.proofs.Common.{◌∙◌, ap, ℕ, List, [], ◌∷◌, ◌++◌, length-append, refl, arith}
use Rattle.dl_desk.specs.declared.table_book.Newest.{Newest}
use Rattle.dl_desk.specs.Inside.TableMap.{told_in}
use Rattle.dl_desk.proofs.TablePlaces.{told-added}
use Rattle.dl_desk.proofs.table_book.add_places.Goals as goal

pub loop-place-init : goal.loop-place-init
loop-place-init c = record { long = omega (arith, c.args.places.now.ok.0); told = λ q. refl }

pub loop-place-preserved : goal.loop-place-preserved
loop-place-preserved c = record {
  long = rw (c.in_ok-push.ensures.items, length-append) (let l = c.loop-place.invariant.long in omega arith);
  told = λ q.
      ap (λ (ps : List (List (List ℕ × Newest))). told_in ps q)
      (c.in_ok-push.ensures.items ∙ ap (λ (p : List (List ℕ × Newest)). c.loop-place.places.items ++ p ∷ []) c.new.ensures)
      ∙ told-added c.loop-place.places.items q
      ∙ c.loop-place.invariant.told q;
}

pub returns-in_err-push-clause-told : goal.returns-in_err-push-clause-told
returns-in_err-push-clause-told c = λ q. ap (λ (ps : List (List (List ℕ × Newest))). told_in ps q) c.in_err-push.ensures.items ∙ c.loop-place.invariant.told q

pub returns-clause-enough : goal.returns-clause-enough
returns-clause-enough c = let l = c.loop-place.invariant.long in omega arith

pub returns-clause-told : goal.returns-clause-told
returns-clause-told c = c.loop-place.invariant.told

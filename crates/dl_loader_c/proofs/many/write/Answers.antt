use Rattle.std.proofs.Common.{◌∙◌, ◌++◌, ◌+◌, ◌∷◌, [], ◌<◌, ◌-◌, ap, sym, refl, length, take, arith}
use Rattle.std.proofs.lemmas.List.{length-set}
use Rattle.dl_loader_c.specs.Answers.{tickets_as}
use Rattle.dl_loader_c.proofs.Tickets.{take_put, tickets_more}
use Rattle.dl_loader_c.proofs.many.write.Goals as goal

pub loop-place-preserved : goal.loop-place-preserved
loop-place-preserved c =
    let at = c.loop-place.place in
    let given = c.loop-place.answers in
    let replies = c.args.replies.now in
    let low : at < length given = omega (arith, c.loop-place-test.true, c.min-place-end.ensures, c.loop-place.invariant.1) in
    let low_reply : at < length replies = omega (arith, c.loop-place-test.true, c.min-place-end.ensures) in
    let first = c.args.tickets - length replies in (
      take_put given at (at + 1) c.of_load.result refl low
          ∙ (ap (λ ts. ts ++ c.of_load.result ∷ []) c.loop-place.invariant.0
          ∙ (ap (λ t. tickets_as first (take at replies) ++ t ∷ []) c.of_load.ensures ∙ sym (tickets_more first replies at _ low_reply))),
      length-set given at c.of_load.result ∙ c.loop-place.invariant.1,
    )

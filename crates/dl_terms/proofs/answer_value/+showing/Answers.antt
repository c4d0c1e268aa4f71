use Rattle.std.proofs.Common.{arith}
use Rattle.dl_terms.proofs.AnswerParts.{list_below, object_below, object_fits}
use Rattle.dl_terms.proofs.answer_value.+showing.Goals as goal

pub show-show_list-requires : goal.show-show_list-requires
show-show_list-requires g t c κs within =
    let below = list_below c.value.inside.shape c.in-List.values c.args.value.now c.in-List.is c.value.view_is in
    (omega (arith, c.decreases, below), within)

pub show-show_object-requires : goal.show-show_object-requires
show-show_object-requires g t c κs within =
    let below =
    object_below c.value.inside.shape c.in-Object.names c.in-Object.values c.args.value.now c.in-Object.is c.value.invariant c.value.view_is in (
      omega (arith, c.decreases, below),
      (within, (object_fits c.value.inside.shape c.in-Object.names c.in-Object.values c.in-Object.is c.value.invariant).long),
    )

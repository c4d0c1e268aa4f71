use Rattle.std.proofs.Common.{arith, rules}
use Rattle.dl_terms.proofs.AnswerParts.{list_deep, object_deep}
use Rattle.dl_terms.proofs.answer_value.+dropping.Goals as goal

pub Shape::drop-drop-requires-in-List : goal.Shape::drop-drop-requires-in-List
Shape::drop-drop-requires-in-List t c κs =
    let below = list_deep c.args.self c.in-List.values c.in-List.is in
    (((omega (arith, c.decreases, below), tt), tt), search rules)

pub Shape::drop-drop-requires-in-Object-2 : goal.Shape::drop-drop-requires-in-Object-2
Shape::drop-drop-requires-in-Object-2 t c κs =
    let below = object_deep c.args.self c.in-Object.names c.in-Object.values c.in-Object.is in
    (((omega (arith, c.decreases, below), tt), tt), search rules)

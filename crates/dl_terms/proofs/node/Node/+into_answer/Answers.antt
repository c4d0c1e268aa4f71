use Rattle.std.proofs.Common.{◌∙◌, ap, sym}
use Rattle.dl_terms.specs.Node.{node_view, result_of}
use Rattle.dl_terms.proofs.Views.{node_view-Chain}
use Rattle.dl_terms.proofs.Frames.{not_empty, not_ended}
use Rattle.dl_terms.proofs.node.Node.+into_answer.Goals as goal

pub returns-in-Chain : goal.returns-in-Chain
returns-in-Chain t c =
    let part = c.in-Chain.part in
    let frames = c.in-Chain.frames in
    let none = not_ended frames.items (node_view part.value) (not_empty frames c.is_empty.result c.is_empty.ensures c.if-is_empty.false) in
    sym (ap (λ n. result_of (node_view n)) c.in-Chain.is ∙ (ap result_of (node_view-Chain part frames) ∙ none))

use Rattle.std.proofs.Common.{ap, map, length, ◌∙◌}
use Rattle.dl_c_values.specs.Answers.{loaded_as}
use Rattle.dl_c.proofs.Replies.{length-load_replies}
use Rattle.dl_c.proofs.many.load_keys.Goals as goal

pub returns-in-Ok-clause-cells : goal.returns-in-Ok-clause-cells
returns-in-Ok-clause-cells c done history stands =
    let same = c.deref.ensures.value ∙ c.in-Ok.ensures.replies history stands in
    c.write.ensures (ap length same ∙ length-load_replies c.args.desk.now.book.rules history c.args.keys.now ∙ c.requires) ∙ ap (map loaded_as) same

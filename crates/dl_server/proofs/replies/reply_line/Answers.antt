use Rattle.std.proofs.Common.{◌++◌, ap, ◌∙◌}
use Rattle.dl_server.specs.Responses.{typed, line_type}
use Rattle.dl_server.proofs.Filled.{filled}
use Rattle.dl_server.proofs.replies.reply_line.Goals as goal

pub returns : goal.returns
returns c =
    filled c.reply.result c.args.status c.reply.new.response _ (typed line_type) _ _ (ap (λ s. s ++ typed line_type) c.requires.headers) (c.from_static.ensures ∙ c.as_bytes.ensures.value)
    c.reply.ensures

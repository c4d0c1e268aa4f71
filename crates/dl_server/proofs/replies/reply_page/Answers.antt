use Rattle.std.proofs.Common.{◌++◌, ap, ◌∙◌}
use Rattle.dl_server.specs.Responses.{typed, page_type}
use Rattle.dl_server.proofs.Filled.{filled}
use Rattle.dl_server.proofs.replies.reply_page.Goals as goal

pub returns : goal.returns
returns c =
    filled c.reply.result 200 c.reply.new.response _ (typed page_type) _ _ (ap (λ s. s ++ typed page_type) c.requires.headers) (c.from_static.ensures ∙ c.as_bytes.ensures.value)
    c.reply.ensures

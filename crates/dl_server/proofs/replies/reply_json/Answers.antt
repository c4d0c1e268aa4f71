use Rattle.std.proofs.Common.{◌++◌, ap}
use Rattle.dl_server.specs.Responses.{typed, json_type}
use Rattle.dl_server.proofs.Filled.{filled}
use Rattle.dl_server.proofs.replies.reply_json.Goals as goal

pub returns : goal.returns
returns c =
    filled c.reply.result c.args.status c.reply.new.response _ (typed json_type) _ _ (ap (λ s. s ++ typed json_type) c.requires.headers) c.in_ok-from_string.ensures
    c.reply.ensures

use Rattle.std.proofs.Common.{◌++◌, ap}
use Rattle.dl_server.specs.Responses.{typed, picture_type}
use Rattle.dl_server.proofs.Filled.{filled}
use Rattle.dl_server.proofs.replies.reply_picture.Goals as goal

pub returns : goal.returns
returns c =
    filled c.reply.result 200 c.reply.new.response _ (typed picture_type) _ _ (ap (λ s. s ++ typed picture_type) c.requires.headers) c.in_ok-from_string.ensures
    c.reply.ensures

use Rattle.std.proofs.Common.{string_bytes, inl, inr}
use Rattle.std.proofs.lemmas.Result.{on_ok_weaker}
use Rattle.dl_server.proofs.requests.Requests.draw.Goals as goal

pub returns-in-Ok : goal.returns-in-Ok
returns-in-Ok g c =
    on_ok_weaker c.reply_picture.result (λ h. inl (c.in-Ok.ensures.ok, string_bytes c.in-Ok.picture, h)) c.reply_picture.ensures

pub returns-in-Err : goal.returns-in-Err
returns-in-Err g c = on_ok_weaker c.refuse.result (λ h. inr (c.in-Err.fault, c.in-Err.ensures.err, h)) c.refuse.ensures

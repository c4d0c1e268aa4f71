use Rattle.std.proofs.Common.{ℕ, List, subst, inl, inr}
use Rattle.std.proofs.lemmas.Result.{on_ok_weaker}
use Rattle.dl_server.specs.Answers.{IsJson}
use Rattle.dl_server.proofs.requests.Requests.answer.Goals as goal

pub returns-in_ok-text-in-Ok : goal.returns-in_ok-text-in-Ok
returns-in_ok-text-in-Ok g c =
    on_ok_weaker c.reply_json.result
    (λ h. inl (c.in-Ok.report, c.in-Ok.ensures.ok, subst (λ (t : List ℕ). IsJson 200 t c.reply_json.new.response) c.in_ok-text-in-Ok.ensures h)) c.reply_json.ensures

pub returns-in-Err : goal.returns-in-Err
returns-in-Err g c = on_ok_weaker c.refuse.result (λ h. inr (c.in-Err.fault, c.in-Err.ensures.err, h)) c.refuse.ensures

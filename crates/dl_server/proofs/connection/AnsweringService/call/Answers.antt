use Rattle.std.proofs.Common.{refl, OnErr, Result, Ok, Err}
use Rattle.std.proofs.lemmas.Result.{on_ok_weaker}
use Rattle.dl_server.proofs.connection.AnsweringService.call.Goals as goal

on_any_err : {T E P : Type 0} (result : Result T E) → P → OnErr result P
on_any_err (Ok x) p = tt
on_any_err (Err e) p = p

pub returns-clause-ok : goal.returns-clause-ok
returns-clause-ok g c = on_ok_weaker c.reply_to.result (λ h. (refl, h)) c.reply_to.ensures

pub returns-clause-err : goal.returns-clause-err
returns-clause-err g c = on_any_err c.reply_to.result refl

use Rattle.std.proofs.lemmas.Result.{IfOk-weaker}
use Rattle.dl_sqlite.proofs.file.read_at.Goals as goal

pub returns : goal.returns
returns g c = IfOk-weaker c.read_agreed.result _ _ (λ tables read. (_, _, read)) c.read_agreed.ensures.rows

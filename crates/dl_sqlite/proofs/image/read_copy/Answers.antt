use Rattle.std.proofs.Common.{refl}
use Rattle.std.proofs.lemmas.Result.{IfOk-weaker}
use Rattle.sqlite.specs.Files.{file_state}
use Rattle.dl_sqlite.proofs.image.read_copy.Goals as goal

pub returns : goal.returns
returns c = IfOk-weaker c.read_files.result _ _ (λ tables rows. ((file_state c.in_ok-conn.conn).now, c.in_ok-conn.ensures, rows (λ _. refl))) c.read_files.ensures

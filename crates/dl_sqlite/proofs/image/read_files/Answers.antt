use Rattle.dl_sqlite.proofs.Images.{store_is_clean}
use Rattle.dl_sqlite.proofs.image.read_files.Goals as goal

pub returns : goal.returns
returns g c = λ sure. c.in_ok-tables.ensures.rows (store_is_clean sure c.in_ok-tables._store)

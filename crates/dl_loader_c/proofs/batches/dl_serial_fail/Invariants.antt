use Rattle.dl_loader_c.specs.Named.{service_by}
use Rattle.dl_loader_c.proofs.batches.dl_serial_fail.Given as goal

-- the type names the loader of the handle
abbrev pub ghosts-fail-L-LoaderName : goal.ghosts-fail-L-LoaderName
ghosts-fail-L-LoaderName a = record { cells = a.held.name.cells; service = service_by a.held.name }

abbrev pub ghosts-fail-L-Ledger : goal.ghosts-fail-L-Ledger
ghosts-fail-L-Ledger a = record { name = a.held.name.ledger; parts = a.held.name.callers }

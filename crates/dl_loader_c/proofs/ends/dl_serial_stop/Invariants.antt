use Rattle.dl_loader_c.specs.Named.{service_by}
use Rattle.dl_loader_c.proofs.ends.dl_serial_stop.Given as goal

-- the type names the loader of the handle
abbrev pub ghosts-stop-L-LoaderName : goal.ghosts-stop-L-LoaderName
ghosts-stop-L-LoaderName a = record { cells = a.held.name.cells; service = service_by a.held.name }

abbrev pub ghosts-stop-L-Ledger : goal.ghosts-stop-L-Ledger
ghosts-stop-L-Ledger a = record { name = a.held.name.ledger; parts = a.held.name.callers }

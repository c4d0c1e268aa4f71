use Rattle.dl_loader_c.specs.Named.{service_by}
use Rattle.dl_loader_c.proofs.calls.dl_serial_load.Given as goal

-- the type names the loader of the handle
abbrev pub ghosts-load-L-LoaderName : goal.ghosts-load-L-LoaderName
ghosts-load-L-LoaderName a = record { cells = a.held.name.cells; service = service_by a.held.name }

abbrev pub ghosts-load-L-Ledger : goal.ghosts-load-L-Ledger
ghosts-load-L-Ledger a = record { name = a.held.name.ledger; parts = a.held.name.callers }

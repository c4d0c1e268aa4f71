use Rattle.dl_loader_c.specs.Named.{service_by}
use Rattle.dl_loader_c.proofs.calls.dl_serial_clear.Given as goal

-- the type names the loader of the handle
abbrev pub ghosts-clear-L-LoaderName : goal.ghosts-clear-L-LoaderName
ghosts-clear-L-LoaderName a = record { cells = a.held.name.cells; service = service_by a.held.name }

abbrev pub ghosts-clear-L-Ledger : goal.ghosts-clear-L-Ledger
ghosts-clear-L-Ledger a = record { name = a.held.name.ledger; parts = a.held.name.callers }

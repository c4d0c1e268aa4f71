use Rattle.dl_loader_c.specs.Named.{service_by}
use Rattle.dl_loader_c.proofs.calls.dl_serial_clear_all.Given as goal

-- the type names the loader of the handle
abbrev pub ghosts-clear_all-L-LoaderName : goal.ghosts-clear_all-L-LoaderName
ghosts-clear_all-L-LoaderName a = record { cells = a.held.name.cells; service = service_by a.held.name }

abbrev pub ghosts-clear_all-L-Ledger : goal.ghosts-clear_all-L-Ledger
ghosts-clear_all-L-Ledger a = record { name = a.held.name.ledger; parts = a.held.name.callers }

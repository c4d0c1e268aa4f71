use Rattle.dl_loader_c.specs.Named.{service_by}
use Rattle.dl_loader_c.proofs.ends.dl_serial_saw.Given as goal

-- the type names the loader of the handle
abbrev pub ghosts-saw-L-LoaderName : goal.ghosts-saw-L-LoaderName
ghosts-saw-L-LoaderName a = record { cells = a.held.name.cells; service = service_by a.held.name }

abbrev pub ghosts-saw-L-Ledger : goal.ghosts-saw-L-Ledger
ghosts-saw-L-Ledger a = record { name = a.held.name.ledger; parts = a.held.name.callers }

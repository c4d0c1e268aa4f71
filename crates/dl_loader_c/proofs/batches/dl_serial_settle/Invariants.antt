use Rattle.dl_loader_c.specs.Named.{service_by}
use Rattle.dl_loader_c.proofs.batches.dl_serial_settle.Given as goal

-- the type names the loader of the handle
abbrev pub ghosts-settle-L-LoaderName : goal.ghosts-settle-L-LoaderName
ghosts-settle-L-LoaderName a = record { cells = a.held.name.cells; service = service_by a.held.name }

abbrev pub ghosts-settle-L-Ledger : goal.ghosts-settle-L-Ledger
ghosts-settle-L-Ledger a = record { name = a.held.name.ledger; parts = a.held.name.callers }

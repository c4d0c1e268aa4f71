use Rattle.dl_loader_c.specs.Named.{service_by}
use Rattle.dl_loader_c.proofs.ends.dl_serial_close.Given as goal

-- the type names the loader of the handle
abbrev pub ghosts-close-L-LoaderName : goal.ghosts-close-L-LoaderName
ghosts-close-L-LoaderName a = record { cells = a.held.name.cells; service = service_by a.held.name }

abbrev pub ghosts-close-L-Ledger : goal.ghosts-close-L-Ledger
ghosts-close-L-Ledger a = record { name = a.held.name.ledger; parts = a.held.name.callers }

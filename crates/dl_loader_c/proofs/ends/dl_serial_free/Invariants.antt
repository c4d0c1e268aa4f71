use Rattle.dl_loader_c.specs.Named.{service_by}
use Rattle.dl_loader_c.proofs.ends.dl_serial_free.Given as goal

-- the type names the loader of the handle
abbrev pub ghosts-free-L-LoaderName : goal.ghosts-free-L-LoaderName
ghosts-free-L-LoaderName a = record { cells = a.held.name.cells; service = service_by a.held.name }

abbrev pub ghosts-free-L-Ledger : goal.ghosts-free-L-Ledger
ghosts-free-L-Ledger a = record { name = a.held.name.ledger; parts = a.held.name.callers }

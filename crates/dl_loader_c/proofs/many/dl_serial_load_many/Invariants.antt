use Rattle.dl_loader_c.specs.Named.{service_by}
use Rattle.dl_loader_c.proofs.many.dl_serial_load_many.Given as goal

-- the type names the loader of the handle
abbrev pub ghosts-load_many-L-LoaderName : goal.ghosts-load_many-L-LoaderName
ghosts-load_many-L-LoaderName a = record { cells = a.held.name.cells; service = service_by a.held.name }

abbrev pub ghosts-load_many-L-Ledger : goal.ghosts-load_many-L-Ledger
ghosts-load_many-L-Ledger a = record { name = a.held.name.ledger; parts = a.held.name.callers }

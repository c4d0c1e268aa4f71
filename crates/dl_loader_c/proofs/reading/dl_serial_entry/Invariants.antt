use Rattle.dl_loader_c.specs.Named.{service_by}
use Rattle.dl_loader_c.proofs.reading.dl_serial_entry.Given as goal

-- the type names the loader of the handle
abbrev pub ghosts-entry-L-LoaderName : goal.ghosts-entry-L-LoaderName
ghosts-entry-L-LoaderName a = record { cells = a.held.name.cells; service = service_by a.held.name }

abbrev pub ghosts-entry-L-Ledger : goal.ghosts-entry-L-Ledger
ghosts-entry-L-Ledger a = record { name = a.held.name.ledger; parts = a.held.name.callers }

use Rattle.dl_loader_c.specs.Named.{service_by}
use Rattle.dl_loader_c.proofs.reading.dl_serial_event.Given as goal

-- the type names the loader of the handle
abbrev pub ghosts-event-L-LoaderName : goal.ghosts-event-L-LoaderName
ghosts-event-L-LoaderName a = record { cells = a.held.name.cells; service = service_by a.held.name }

abbrev pub ghosts-event-L-Ledger : goal.ghosts-event-L-Ledger
ghosts-event-L-Ledger a = record { name = a.held.name.ledger; parts = a.held.name.callers }

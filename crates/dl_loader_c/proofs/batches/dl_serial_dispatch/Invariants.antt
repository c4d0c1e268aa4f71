use Rattle.dl_loader_c.specs.Named.{service_by}
use Rattle.dl_loader_c.proofs.batches.dl_serial_dispatch.Given as goal

-- the type names the loader of the handle
abbrev pub ghosts-dispatch-L-LoaderName : goal.ghosts-dispatch-L-LoaderName
ghosts-dispatch-L-LoaderName a = record { cells = a.held.name.cells; service = service_by a.held.name }

abbrev pub ghosts-dispatch-L-Ledger : goal.ghosts-dispatch-L-Ledger
ghosts-dispatch-L-Ledger a = record { name = a.held.name.ledger; parts = a.held.name.callers }

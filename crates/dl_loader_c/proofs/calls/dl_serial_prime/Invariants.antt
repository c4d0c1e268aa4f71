use Rattle.dl_loader_c.specs.Named.{service_by}
use Rattle.dl_loader_c.proofs.calls.dl_serial_prime.Given as goal

-- the type names the loader of the handle
abbrev pub ghosts-prime-L-LoaderName : goal.ghosts-prime-L-LoaderName
ghosts-prime-L-LoaderName a = record { cells = a.held.name.cells; service = service_by a.held.name }

abbrev pub ghosts-prime-L-Ledger : goal.ghosts-prime-L-Ledger
ghosts-prime-L-Ledger a = record { name = a.held.name.ledger; parts = a.held.name.callers }

use Rattle.dl_loader_c.specs.Named.{service_by}
use Rattle.dl_loader_c.proofs.batches.dl_serial_member.Given as goal

-- the type names the loader of the handle
abbrev pub ghosts-member-L-LoaderName : goal.ghosts-member-L-LoaderName
ghosts-member-L-LoaderName a = record { cells = a.held.name.cells; service = service_by a.held.name }

abbrev pub ghosts-member-L-Ledger : goal.ghosts-member-L-Ledger
ghosts-member-L-Ledger a = record { name = a.held.name.ledger; parts = a.held.name.callers }

use Rattle.dl_values.specs.Answering.{function}
use Rattle.dl_loader.specs.Opening.{service_of}
use Rattle.dl_loader.specs.HostSource.{answer_of}
use Rattle.dl_loader_c.proofs.openings.keep.Given as goal

-- the type names the loader after its opening
abbrev pub ghosts-start-L-LoaderName : goal.ghosts-start-L-LoaderName
ghosts-start-L-LoaderName a = record { cells = a.opening.cells; service = service_of (function answer_of) a.opening }

abbrev pub ghosts-start-L-Ledger : goal.ghosts-start-L-Ledger
ghosts-start-L-Ledger a = record { name = a.opening.ledger; parts = a.opening.callers }

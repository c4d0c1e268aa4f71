use Rattle.dl_values.specs.Answering.{function}
use Rattle.dl_loader.specs.Opening.{service_of}
use Rattle.histories.specs.Restless.{answer_restless}
use Rattle.histories.proofs.callers.called.Given as goal

-- the type names the loader after its opening
abbrev pub ghosts-use_loader-L-LoaderName : goal.ghosts-use_loader-L-LoaderName
ghosts-use_loader-L-LoaderName g a = record { cells = a.opening.cells; service = service_of (function answer_restless) a.opening }

abbrev pub ghosts-use_loader-L-Ledger : goal.ghosts-use_loader-L-Ledger
ghosts-use_loader-L-Ledger g a = record { name = a.opening.ledger; parts = a.opening.callers }

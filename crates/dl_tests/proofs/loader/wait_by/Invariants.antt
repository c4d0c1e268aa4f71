use Rattle.dl_values.specs.Answering.{function}
use Rattle.dl_loader.specs.Opening.{service_of}
use Rattle.dl_source.specs.Answer.{answer_of}
use Rattle.dl_tests.proofs.loader.wait_by.Given as goal

-- the type names the loader after its opening
abbrev pub ghosts-wait_at_once-L-LoaderName : goal.ghosts-wait_at_once-L-LoaderName
ghosts-wait_at_once-L-LoaderName g a = record { cells = a.opening.cells; service = service_of (function answer_of) a.opening }

abbrev pub ghosts-wait_at_once-L-Ledger : goal.ghosts-wait_at_once-L-Ledger
ghosts-wait_at_once-L-Ledger g a = record { name = a.opening.ledger; parts = a.opening.callers }

use Rattle.dl_values.specs.Answering.{function}
use Rattle.dl_loader.specs.Opening.{service_of}
use Rattle.dl_source.specs.Answer.{answer_of}
use Rattle.dl_tests.proofs.loader.callers_on_threads.Given as goal

-- the type names the loader after its opening
abbrev pub ghosts-load_by_each-L-LoaderName : goal.ghosts-load_by_each-L-LoaderName
ghosts-load_by_each-L-LoaderName g a = record { cells = a.opening.cells; service = service_of (function answer_of) a.opening }

abbrev pub ghosts-load_by_each-L-Ledger : goal.ghosts-load_by_each-L-Ledger
ghosts-load_by_each-L-Ledger g a = record { name = a.opening.ledger; parts = a.opening.callers }

use Rattle.dl_values.specs.Answering.{function}
use Rattle.dl_loader.specs.Opening.{service_of}
use Rattle.dl_source.specs.Answer.{answer_of}
use Rattle.dl_tests.proofs.loader.the_most_calls_of_one_log.Given as goal

-- the type names the loader after its opening
abbrev pub ghosts-fill-L-LoaderName : goal.ghosts-fill-L-LoaderName
ghosts-fill-L-LoaderName g a = record { cells = a.opening.cells; service = service_of (function answer_of) a.opening }

abbrev pub ghosts-fill-L-Ledger : goal.ghosts-fill-L-Ledger
ghosts-fill-L-Ledger g a = record { name = a.opening.ledger; parts = a.opening.callers }

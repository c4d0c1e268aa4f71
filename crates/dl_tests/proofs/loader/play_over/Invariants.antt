use Rattle.dl_values.specs.Answering.{function}
use Rattle.dl_loader.specs.Opening.{service_of}
use Rattle.dl_source.specs.Answer.{answer_of}
use Rattle.dl_tests.proofs.loader.play_over.Given as goal

-- the type names the loader after its opening
abbrev pub ghosts-play-L-LoaderName : goal.ghosts-play-L-LoaderName
ghosts-play-L-LoaderName g a = record { cells = a.opening.cells; service = service_of (function answer_of) a.opening }

abbrev pub ghosts-play-L-Ledger : goal.ghosts-play-L-Ledger
ghosts-play-L-Ledger g a = record { name = a.opening.ledger; parts = a.opening.callers }

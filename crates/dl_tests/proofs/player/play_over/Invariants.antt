use Rattle.dl_loader.specs.Opening.{service_of}
use Rattle.dl_tests.proofs.player.play_over.Given as goal

-- the type names the loader after its opening
abbrev pub ghosts-play-L-LoaderName : goal.ghosts-play-L-LoaderName
ghosts-play-L-LoaderName g a = record { cells = a.opening.cells; service = service_of g.S.Source.answer a.opening }

abbrev pub ghosts-play-L-Ledger : goal.ghosts-play-L-Ledger
ghosts-play-L-Ledger g a = record { name = a.opening.ledger; parts = a.opening.callers }

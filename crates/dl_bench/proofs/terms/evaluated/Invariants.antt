use Rattle.dl_values.specs.Answering.{function}
use Rattle.dl_loader.specs.Opening.{service_of}
use Rattle.dl_bench.specs.Alike.{answer_alike}
use Rattle.dl_bench.proofs.terms.evaluated.Given as goal

-- the type names the loader after its opening
abbrev pub ghosts-on_loader-L-LoaderName : goal.ghosts-on_loader-L-LoaderName
ghosts-on_loader-L-LoaderName g a = record { cells = a.opening.cells; service = service_of (function answer_alike) a.opening }

abbrev pub ghosts-on_loader-L-Ledger : goal.ghosts-on_loader-L-Ledger
ghosts-on_loader-L-Ledger g a = record { name = a.opening.ledger; parts = a.opening.callers }

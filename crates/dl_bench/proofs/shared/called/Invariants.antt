use Rattle.dl_values.specs.Answering.{function}
use Rattle.dl_loader.specs.Opening.{service_of}
use Rattle.dl_bench.specs.Alike.{answer_alike}
use Rattle.dl_bench.proofs.shared.called.Given as goal

-- the type names the loader after its opening
abbrev pub ghosts-each_call-L-LoaderName : goal.ghosts-each_call-L-LoaderName
ghosts-each_call-L-LoaderName g a = record { cells = a.opening.cells; service = service_of (function answer_alike) a.opening }

abbrev pub ghosts-each_call-L-Ledger : goal.ghosts-each_call-L-Ledger
ghosts-each_call-L-Ledger g a = record { name = a.opening.ledger; parts = a.opening.callers }

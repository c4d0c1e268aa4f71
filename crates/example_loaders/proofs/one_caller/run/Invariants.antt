use Rattle.dl_values.specs.Answering.{function}
use Rattle.dl_loader.specs.Opening.{service_of}
use Rattle.dl_source.specs.Answer.{answer_of}
use Rattle.example_loaders.proofs.one_caller.run.Given as goal

-- the type names the loader after its opening
abbrev pub ghosts-with_loader-L-LoaderName : goal.ghosts-with_loader-L-LoaderName
ghosts-with_loader-L-LoaderName g a = record { cells = a.opening.cells; service = service_of (function answer_of) a.opening }

abbrev pub ghosts-with_loader-L-Ledger : goal.ghosts-with_loader-L-Ledger
ghosts-with_loader-L-Ledger g a = record { name = a.opening.ledger; parts = a.opening.callers }

use Rattle.dl_loader.specs.Opening.{service_of}
use Rattle.dl_scope.proofs.scope.serve.Given as goal

-- the type names the loader after its opening
abbrev pub ghosts-serve_at-L-LoaderName : goal.ghosts-serve_at-L-LoaderName
ghosts-serve_at-L-LoaderName g a = record { cells = a.opening.cells; service = service_of g.S.Source.answer a.opening }

abbrev pub ghosts-serve_at-L-Ledger : goal.ghosts-serve_at-L-Ledger
ghosts-serve_at-L-Ledger g a = record { name = a.opening.ledger; parts = a.opening.callers }

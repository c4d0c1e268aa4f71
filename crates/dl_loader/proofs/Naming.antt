-- What a type says of the loader that it names.
use mathlib.Core.Path.{subst}
use Rattle.std.specs.Prelude.{◌≡◌, ℕ}
use Rattle.dl_values.specs.Answering.{Answering}
use Rattle.dl_history.specs.CellNames.{CellNames}
use Rattle.dl_desk.specs.Service.{Service, Answers}
use Rattle.dl_loader.specs.Opening.{Opening, Names}

-- the source of the opening answers as the loader's may
pub source_of_named : {S : Type 0} (answer : S → Answering) (opening : Opening S) (own : Service) (parts : ℕ) (cells : CellNames) (ledger : ℕ)
    (source : S) → opening.source ≡ source → Names answer opening own parts cells ledger → Answers (answer source) own
source_of_named answer opening own parts cells ledger source is_source names = subst (λ s. Answers (answer s) own) is_source names.answers

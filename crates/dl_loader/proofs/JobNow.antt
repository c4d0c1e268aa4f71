-- The job of a batch, by what the history has so far.
use Rattle.std.proofs.Common.{◌≡◌, ◌∙◌, sym, ap, ℕ, ◌<◌, ◌≤◌, List, [], map, false, nat_lt, arith}
use Rattle.std.proofs.lemmas.Bool.Decides.{nat_tests}
use Rattle.dl_values.specs.Key.{Key}
use Rattle.dl_values.specs.declared.job.Job.{Job}
use Rattle.dl_desk.specs.BatchBook.{BatchView, StandsFor, batch_view}
use Rattle.dl_desk.specs.Events.{atoms}
use Rattle.dl_desk.specs.History.{Atom, begun}
use Rattle.dl_desk.specs.Service.{Service}
use Rattle.dl_desk.proofs.Facts.{members-unnamed, named}
use Rattle.dl_history.specs.History.{past}
use Rattle.dl_loader.specs.Book.{Keeps}
use Rattle.dl_loader.specs.SerialLoader.{Serial}
use Rattle.dl_loader.specs.HostJobs.{job_now}

abbrev pub keys_of : List (Key × ℕ) → List Key
keys_of ms = map (λ (m : Key × ℕ). m.0) ms

not_below : (b n : ℕ) → n ≤ b → nat_lt b n ≡ false
not_below b n low = grind (arith, nat_tests)

-- a batch that there isn't yet has no keys
pub no_keys : (s : Service) (old : Serial) (b : ℕ) → Keeps s old.book
    → ((history : List Atom) → StandsFor old.book.desk history → begun history ≤ b) → ◌≡◌ {A = Job} (record { batch = b; keys = [] }) (job_now b old)
no_keys s old b kept none =
    let history = atoms (past old.book.history) in
    let unnamed = named old.book.desk.rules history kept.desk.answered b ∙ not_below b (begun history) (none history kept.desk) in
    ap (λ (ms : List (Key × ℕ)). record { batch = b; keys = keys_of ms }) (sym (members-unnamed history b unnamed))

-- a batch that is there has the keys of its members
pub all_keys : (s : Service) (old : Serial) (b : ℕ) (view : BatchView) → Keeps s old.book
    → ((history : List Atom) → StandsFor old.book.desk history → (b < begun history) × (view ≡ batch_view history b))
    → ◌≡◌ {A = Job} (record { batch = b; keys = keys_of view.members }) (job_now b old)
all_keys s old b view kept some =
    let history = atoms (past old.book.history) in
    ap (λ (v : BatchView). record { batch = b; keys = keys_of v.members }) (some history kept.desk).1

-- How many jobs the queue of a report carried: as many as there are batches.
use Rattle.std.specs.Prelude.{◌≡◌, ℕ, List, length}
use Rattle.dl_desk.specs.Events.{atoms}
use Rattle.dl_desk.specs.History.{begun}
use Rattle.dl_history.specs.History.{past}
use Rattle.dl_desk.specs.Service.{Service}
use Rattle.dl_desk.specs.declared.event.Event.{Event}
use Rattle.dl_scope.specs.Headline.{Headline, HeadlineBut}
use Rattle.dl_scope.specs.Report.{Report}
use Rattle.dl_terms.specs.declared.plan.Plan.{Plan}
use Rattle.dl_loader.specs.Dispatches.{dispatched}

-- how many batches the events began
abbrev pub batches_of : List Event → ℕ
batches_of events = begun (atoms (past events))

-- In a report with the headline, even if batches were given up, dispatches handed out as many jobs as there are
-- batches.
abbrev pub JobsAreBatches : Type 0
JobsAreBatches = (service : Service) (batches : List ℕ) (plans : List Plan) (r : Report) → HeadlineBut batches service plans r
    → length (dispatched r.history.events) ≡ batches_of r.history.events

-- as many jobs were sent as there are batches, as many were taken, and none is left
pub record CarriesEach (r : Report) : Type 0 where
  pub sent : r.tally.sent ≡ batches_of r.history.events
  pub taken : r.tally.taken ≡ batches_of r.history.events
  pub none_left : r.tally.left ≡ 0

-- If a report has the headline, its queue carried as many jobs as there are batches.
abbrev pub EachIsCarried : Type 0
EachIsCarried = (service : Service) (plans : List Plan) (r : Report) → Headline service plans r → CarriesEach r

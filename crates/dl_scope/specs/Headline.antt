-- The headline: what a report is evidence of, whatever the schedule was.
use Rattle.std.specs.Prelude.{◌≡◌, ℕ, ◌+◌, ◌<◌, ◌≤◌, List, [], length, count_by, nat_le, Some, slice_get}
use Rattle.dl_history.specs.Agreement.{Agrees, HasEach, entries_of}
use Rattle.dl_history.specs.Entries.{Entry, Called, Saw}
use Rattle.dl_history.specs.History.{IsLegal, AllEnded}
use Rattle.dl_history.specs.Lists.{Every}
use Rattle.dl_desk.specs.Service.{Service}
use Rattle.dl_desk.specs.declared.event.Call.{Call}
use Rattle.dl_desk.specs.declared.event.Call.TheVariants.{Settle, Fail}
use Rattle.dl_desk.specs.declared.event.Event.{Event}
use Rattle.dl_haxl.specs.PlanEntries.{Follows}
use Rattle.dl_scope.specs.Report.{Report}
use Rattle.dl_workers.specs.GiveUps.{given_up}
use Rattle.dl_loader.specs.Dispatches.{dispatched, unsent}
use Rattle.dl_terms.specs.declared.plan.Plan.{Plan}
use Rattle.dl_haxl.specs.declared.step_answers.StepAnswer.{StepAnswer}

-- the call ends this batch
abbrev pub Ends : ℕ → Call → Type 0
Ends b (Settle n os) = n ≡ b
Ends b (Fail n fault) = n ≡ b
Ends b call = ⊥

-- the entry is of a call that ends a batch
abbrev pub TellsEnd : Entry → Type 0
TellsEnd (Called t) = (b : ℕ) × Ends b t.event.call
TellsEnd (Saw r) = ⊥

-- events that end the same batch are the same event
abbrev pub EndOnce : List Event → Type 0
EndOnce events = (b j k : ℕ) (e f : Event) → slice_get events j ≡ Some e → slice_get events k ≡ Some f → Ends b e.call → Ends b f.call → j ≡ k

-- how many of the events are calls of the callers from number n on
abbrev pub calls_after : ℕ → List Event → ℕ
calls_after n events = count_by (λ e. nat_le n e.caller) events

-- Whatever the schedule, workers and batch limit, a report holds one history. In it every load, loadMany, prime and
-- clear has the reply of a single-threaded DataLoader at its point; each caller's calls are there once, in its order;
-- every outcome that a caller read is the one that the history gives its load; and every batch has one end, by an answer
-- that the source may give to its keys, except for these, which were given up. The headline has none of them.
pub record HeadlineBut (batches : List ℕ) (service : Service) (plans : List Plan) (r : Report) : Type 0 where
  -- each event has the reply of a single-threaded data loader after those before it, and each end of a batch is lawful
  pub legal : IsLegal service r.history.events
  -- each caller has exactly one account, and nobody else has one
  pub count : length r.history.accounts ≡ service.callers
  pub each : HasEach service.callers r.history.accounts
  -- a caller's calls are there once, in its order, after what it had read before; each outcome it read is the one of
  -- the history
  pub agree : Every (Agrees r.history.events) r.history.accounts
  -- each plan's caller made the calls of its steps and no others, and the report has their answers and rounds
  pub answers_each : length r.answers ≡ length plans
  pub rounds_each : length r.rounds ≡ length plans
  pub follow : (n : ℕ) (plan : Plan) (answers : List StepAnswer) (rounds : ℕ) → slice_get plans n ≡ Some plan
      → slice_get r.answers n ≡ Some answers → slice_get r.rounds n ≡ Some rounds
      → Follows n plan.steps.items (entries_of n r.history.accounts) answers rounds
  -- each worker ended batches, and did nothing else
  pub work : (n : ℕ) → length plans ≤ n → n < service.callers → Every TellsEnd (entries_of n r.history.accounts)
  -- every batch has exactly one end: by an answer of the source (`legal` says which), unless it was given up
  pub ended : AllEnded r.history.events
  pub once : EndOnce r.history.events
  pub fetched : given_up r.history.events ≡ batches
  -- as many jobs were sent as dispatches handed out, less those whose batches failed as unsent
  pub sent : r.tally.sent + length (unsent r.history.events) ≡ length (dispatched r.history.events)
  -- as many jobs were taken as the workers ended batches, and the others were left
  pub taken : r.tally.taken ≡ calls_after (length plans) r.history.events
  pub counted : r.tally.sent ≡ r.tally.taken + r.tally.left

abbrev pub Headline : Service → List Plan → Report → Type 0
Headline service plans r = HeadlineBut [] service plans r

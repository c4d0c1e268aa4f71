-- Jobs that dispatches handed out, and batches whose jobs were not sent.
use Rattle.std.specs.Prelude.{ℕ, List, [], ◌∷◌, flat_map, map}
use Rattle.dl_values.specs.declared.job.Job.{Job}
use Rattle.dl_values.specs.declared.outcome.BatchFault.TheVariants.{Unsent}
use Rattle.dl_history.specs.Entries.{Entry, calls_of}
use Rattle.dl_desk.specs.declared.event.Call.{Call}
use Rattle.dl_desk.specs.declared.event.Call.TheVariants.{Dispatch, Fail}
use Rattle.dl_desk.specs.declared.event.Event.{Event}
use Rattle.dl_desk.specs.declared.event.Reply.{Reply}
use Rattle.dl_desk.specs.declared.event.Reply.TheVariants.{Sent}

-- the events of the calls among the entries, in order
abbrev pub events_told : List Entry → List Event
events_told entries = map (λ t. t.event) (calls_of entries)

-- the jobs of a reply
abbrev pub jobs_in : Reply → List Job
jobs_in (Sent js) = js
jobs_in reply = []

-- the jobs of the reply to the call, if it is a dispatch
abbrev pub dispatched_by : Call → Reply → List Job
dispatched_by Dispatch reply = jobs_in reply
dispatched_by call reply = []

-- the jobs of the replies to the dispatches among the events, in order
abbrev pub dispatched : List Event → List Job
dispatched events = flat_map (λ e. dispatched_by e.call e.reply) events

-- the batch that the call fails since its job was not sent, if it does
abbrev pub unsent_by : Call → List ℕ
unsent_by (Fail b Unsent) = b ∷ []
unsent_by call = []

-- the batches that failed since their jobs were not sent, in the order of their ends
abbrev pub unsent : List Event → List ℕ
unsent events = flat_map (λ e. unsent_by e.call) events

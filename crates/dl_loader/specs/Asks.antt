-- What an event call asks for: the call that the history will have, and the job that it ends.
use Rattle.std.specs.Prelude.{ℕ, Option, Some, None}
use Rattle.dl_values.specs.declared.outcome.BatchFault.{BatchFault}
use Rattle.dl_values.specs.declared.outcome.BatchFault.TheVariants as fault
use Rattle.dl_values.specs.declared.job.Job.{Job}
use Rattle.dl_values.specs.declared.outcome.BatchAnswer.{BatchAnswer}
use Rattle.dl_values.specs.declared.outcome.BatchAnswer.TheVariants.{Each, Break}
use Rattle.dl_source.specs.declared.source.Source.{Ghosts}
use Rattle.dl_source.specs.Fetched.{source_of, job_of, answer_of}
use Rattle.dl_loader.specs.declared.ask.Ask.{Ask}
use Rattle.dl_loader.specs.declared.ask.Ask.TheVariants as ask
use Rattle.dl_desk.specs.declared.event.Call.{Call}
use Rattle.dl_desk.specs.declared.event.Call.TheVariants.{Load, LoadMany, Prime, Clear, ClearAll, Dispatch, Settle, Fail}
use Rattle.dl_loader.specs.declared.ask.GiveUp.{GiveUp}
use Rattle.dl_loader.specs.declared.ask.GiveUp.TheVariants.{Memory, Unsent}

-- the end that an answer brings to a batch: its outcomes, or a failure with the text of its break
abbrev pub end_by : ℕ → BatchAnswer → Call
end_by b (Each os) = Settle b os
end_by b (Break text) = Fail b (fault.Source text)

-- the fault of a batch that its caller gives up
abbrev pub fault_of : GiveUp → BatchFault
fault_of Memory = fault.Memory
fault_of Unsent = fault.Unsent

module _ {S : Type 0} {G : Ghosts S} where
  -- the call that the history has for an ask
  abbrev pub call_asked : Ask S G → Call
  call_asked (ask.Load k) = Load k.now
  call_asked (ask.LoadMany ks) = LoadMany ks.now
  call_asked (ask.Prime k o) = Prime k.now o
  call_asked (ask.Clear k) = Clear k.now
  call_asked ask.ClearAll = ClearAll
  call_asked ask.Dispatch = Dispatch
  call_asked (ask.Settle fetched) = end_by (job_of fetched).batch (answer_of fetched)
  call_asked (ask.Fail job give_up) = Fail job.batch (fault_of give_up)

  -- the job that an ask ends
  abbrev pub job_asked : Ask S G → Option Job
  job_asked (ask.Settle fetched) = Some (job_of fetched)
  job_asked (ask.Fail job give_up) = Some job
  job_asked asked = None

  -- the source whose answer an ask brings
  abbrev pub source_asked : Ask S G → Option S
  source_asked (ask.Settle fetched) = Some (source_of fetched)
  source_asked asked = None

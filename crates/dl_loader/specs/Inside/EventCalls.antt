-- What the event calls make.
use Rattle.std.specs.Prelude.{ℕ, List, length, Result, Ok, Err, IfOk}
use Rattle.std.specs.Borrow.{Bor}
use Rattle.dl_values.specs.Answering.{Answering, MayAnswer}
use Rattle.dl_values.specs.Key.{Key}
use Rattle.dl_values.specs.declared.job.Job.{Job}
use Rattle.dl_values.specs.declared.outcome.BatchAnswer.{BatchAnswer}
use Rattle.dl_values.specs.declared.outcome.BatchAnswer.TheVariants.{Each, Break}
use Rattle.dl_desk.specs.declared.reply.End.{End}
use Rattle.dl_desk.specs.declared.reply.End.TheVariants.{Failed}
use Rattle.dl_desk.specs.declared.event.Call.{Call}
use Rattle.dl_desk.specs.declared.event.Call.TheVariants.{Clear, ClearAll, Fail}
use Rattle.dl_loader.specs.Asks.{end_by, fault_of}
use Rattle.dl_loader.specs.Inside.Dues.{end_as}
use Rattle.dl_loader.specs.declared.ask.GiveUp.{GiveUp}
use Rattle.dl_loader.specs.declared.event_call.keys.Clear as clear
use Rattle.dl_loader.specs.declared.event_call.keys.Clear.TheVariants as cleared

-- ---- a clear of a key, or of all

abbrev pub clear_made : clear.Clear → Call
clear_made (cleared.Key k) = Clear k.now
clear_made cleared.All = ClearAll

-- ---- the end of a batch, by what the source answered to its keys or because its caller gives it up

-- the job whose batch it is
abbrev pub job_ended : ℕ → List Key → Job
job_ended b keys = record { batch = b; keys = keys }

-- the call that ends the batch
abbrev pub call_ended : ℕ → Result (Bor BatchAnswer) GiveUp → Call
call_ended b (Ok a) = end_by b a.now
call_ended b (Err give_up) = Fail b (fault_of give_up)

-- how the desk ends the batch
abbrev pub end_made : Result (Bor BatchAnswer) GiveUp → End
end_made (Ok a) = end_as a.now
end_made (Err give_up) = Failed

-- how many keys an answer is for, of so many: an outcome is for each, and a break for all
abbrev pub answer_len : ℕ → BatchAnswer → ℕ
answer_len n (Each os) = length os
answer_len n (Break text) = n

-- how many keys the end is for, of so many
abbrev pub ended_len : ℕ → Result (Bor BatchAnswer) GiveUp → ℕ
ended_len n (Ok a) = answer_len n a.now
ended_len n (Err give_up) = n

-- the answer that it brings to the keys, if it brings one, is allowed
abbrev pub Brings : List Key → Result (Bor BatchAnswer) GiveUp → Answering → Type 0
Brings keys brought answer = IfOk brought (λ a. MayAnswer answer keys a.now)

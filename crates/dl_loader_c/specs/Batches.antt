-- The calls on batches as C makes them.
use Rattle.std.specs.Prelude.{◌≡◌, ℕ, ◌<◌, ◌⊎◌, List, None, Some, map, slice_get, IfSome, nat_le, if◌then◌else◌}
use Rattle.dl_values.specs.declared.job.Job.{Job}
use Rattle.dl_values.specs.declared.outcome.BatchFault.TheVariants.{Unsent}
use Rattle.dl_desk.specs.BatchBook.{StandsFor}
use Rattle.dl_desk.specs.History.{Atom, begun, members, jobs_from}
use Rattle.dl_desk.specs.Events.{atoms}
use Rattle.dl_desk.specs.Service.{Service}
use Rattle.dl_desk.specs.declared.event.Call.{Call}
use Rattle.dl_desk.specs.declared.event.Call.TheVariants.{Dispatch, Settle, Fail}
use Rattle.dl_desk.specs.declared.event.Reply.TheVariants.{Done, Sent}
use Rattle.dl_history.specs.History.{past}
use Rattle.dl_loader.specs.SerialLoader.{Serial}
use Rattle.dl_c_values.specs.declared.codes.TheConstants.{DONE, HIT, NO_BATCH, OUT_OF_MEMORY}
use Rattle.dl_c_values.specs.declared.answers.Loaded.{Loaded}
use Rattle.dl_c_values.specs.declared.answers.Dispatched.{Dispatched}
use Rattle.dl_c_values.specs.declared.key_texts.KeyTexts.{KeyTexts}
use Rattle.dl_c_values.specs.Answers.{member_as, refused_as, sent_as, none_sent}
use Rattle.dl_loader_c.specs.Calls.{IsCallFault, Makes}
use Rattle.dl_loader.specs.HostSource.{mark}
use Rattle.dl_loader.specs.HostJobs.{job_now}
use Rattle.dl_c_values.specs.Keys.{Spells}

-- the answer to a dispatch: the batches that it sends stand in a row
pub record AnswersDispatch (service : Service) (caller : ℕ) (answer : Dispatched) (old new : Serial) : Type 0 where
  pub made : answer.code ≡ DONE → (jobs : List Job) × (answer ≡ sent_as jobs)
      × (jobs ≡ jobs_from (atoms (past old.book.history)) answer.first answer.count) × Makes service caller Dispatch (Sent jobs) old new
  pub refused : DONE < answer.code → (answer ≡ none_sent answer.code) × (new ≡ old) × IsCallFault service caller Dispatch None old answer.code

-- the calls that end the batch of a job: with a mark for each key, or as a whole
abbrev pub settled : Job → Call
settled job = Settle job.batch (map (λ key. mark) job.keys)

abbrev pub failed : Job → Call
failed job = Fail job.batch Unsent

-- why a batch isn't ended: memory is short for its job, or the call with the job isn't made
abbrev pub IsEndFault : Service → ℕ → Call → Job → Serial → ℕ → Type 0
IsEndFault service caller call job s code = (code ≡ OUT_OF_MEMORY) ⊎ IsCallFault service caller call (Some job) s code

-- the answer to an end of a batch, by a call with its job
pub record AnswersEnd (service : Service) (caller batch : ℕ) (call : Job → Call) (code : ℕ) (old new : Serial) : Type 0 where
  pub made : code ≡ DONE → Makes service caller (call (job_now batch old)) Done old new
  pub refused : DONE < code → (new ≡ old) × IsEndFault service caller (call (job_now batch old)) (job_now batch old) old code

-- the answer to a look-up of a batch's member by its index
abbrev pub member_answer : List Atom → ℕ → ℕ → Loaded
member_answer history b i = if nat_le (begun history) b then refused_as NO_BATCH else member_as (slice_get (members history b) i)

-- The answer to a look-up of a batch's member, which changes nothing, and the texts of its key.
pub record AnswersMember (b i : ℕ) (answer : Loaded) (before texts : KeyTexts) (old new : Serial) : Type 0 where
  pub kept : new ≡ old
  pub told : (history : List Atom) → StandsFor old.book.desk history → answer ≡ member_answer history b i
  pub spelled : answer.code ≡ HIT → (history : List Atom) → StandsFor old.book.desk history → IfSome (slice_get (members history b) i) (λ m. Spells texts m.0)
  pub none : HIT < answer.code → texts ≡ before

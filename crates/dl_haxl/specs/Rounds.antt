-- What an evaluation adds to a pass and sends to a queue: rounds of a loadMany, a dispatch, ends of jobs, and reads.
use Rattle.std.specs.Prelude.{◌≡◌, ◌≢◌, ◌⊎◌, ℕ, zero, suc, List, [], ◌∷◌, ◌++◌, length, map}
use Rattle.dl_values.specs.Key.{Key}
use Rattle.dl_values.specs.declared.outcome.Outcome.{Outcome}
use Rattle.dl_values.specs.declared.outcome.BatchFault.TheVariants.{Unsent}
use Rattle.dl_values.specs.declared.job.Job.{Job}
use Rattle.dl_desk.specs.declared.reply.LoadReply.{LoadReply}
use Rattle.dl_history.specs.Entries.{Entry}
use Rattle.dl_desk.specs.Service.{Service}
use Rattle.dl_desk.specs.declared.event.Call.TheVariants.{LoadMany, Dispatch, Fail}
use Rattle.dl_desk.specs.declared.event.Ending.{Ending}
use Rattle.dl_desk.specs.declared.event.Reply.TheVariants.{Many, Sent, Done}
use Rattle.dl_loader.specs.Additions.{call_entry, saws, Adds}
use Rattle.dl_loader.specs.Pass.{Trace}
use Rattle.dl_terms.specs.declared.answer.Answer.{Answer}
use Rattle.dl_terms.specs.Tree.{Tree}
use Rattle.dl_terms.specs.TermAnswers.{Pairs, frontier, gives}
use Rattle.dl_loader.specs.JobEnd.{AreEndsOf}
use Rattle.dl_haxl.specs.Pairs.{paired}

-- ---- jobs that the caller fetches on its own thread

-- the caller sent none of these jobs to a queue, and ended each
abbrev pub EndedInline : Service → ℕ → List Job → List Job → List Entry → Type 0
EndedInline service caller jobs sent ends = (sent ≡ []) × AreEndsOf service caller jobs ends

-- ---- jobs that the caller sends to fetch workers

-- of these jobs, in order, the caller sent each to a queue, or got it back and failed it as unsent
abbrev pub HandedOver : ℕ → List Job → List Job → List Entry → Type 0
HandedOver caller [] sent ends = (sent ≡ []) × (ends ≡ [])
HandedOver caller (job ∷ jobs) sent ends =
    ((rest : List Job) × (sent ≡ job ∷ rest) × HandedOver caller jobs rest ends)
    ⊎ ((at : ℕ) × (rest : List Entry) × (ends ≡ call_entry caller at (Fail job.batch Unsent) Done ∷ rest) × HandedOver caller jobs sent rest)

-- ---- what a caller adds and sends

-- the jobs sent later: those sent before, and perhaps more
abbrev pub SentMore : List Job → List Job → Type 0
SentMore before after = (sent : List Job) × (after ≡ before ++ sent)

-- P holds of what came since: the entries of the pass, and the jobs that the caller sent
abbrev pub AddsAndSends : Trace → Trace → List Job → List Job → (List Entry → List Job → Type 0) → Type 0
AddsAndSends old new before after P = (sent : List Job) × (after ≡ before ++ sent) × Adds old new (λ lines. P lines sent)

-- ---- rounds

-- A round loads the wanted keys by one loadMany, dispatches, and reads the outcome of each load, in order. It sends
-- some of the dispatched jobs, and ends the others.
pub record Round (JobsEnd : List Job → List Job → List Entry → Type 0) (caller : ℕ) (wanted : List Key)
    (lines : List Entry) (outcomes : List Outcome) (sent : List Job) : Type 0 where
  pub load_at : ℕ
  pub dispatch_at : ℕ
  pub replies : List LoadReply
  pub jobs : List Job
  pub ends : List Entry
  pub endings : List Ending
  pub reply_each : length replies ≡ length wanted
  pub read_each : length endings ≡ length wanted
  pub jobs_end : JobsEnd jobs sent ends
  pub tells : lines ≡ call_entry caller load_at (LoadMany wanted) (Many replies) ∷ call_entry caller dispatch_at Dispatch (Sent jobs)
      ∷ (ends ++ saws replies endings)
  pub outcomes_are : outcomes ≡ map (λ e. e.outcome) endings

module _ (JobsEnd : List Job → List Job → List Entry → Type 0) (caller : ℕ) (t : Tree) where
  -- a round of all keys that the term waits for; it gains their outcomes
  pub record LastRound (known : Pairs) (lines : List Entry) (more : Pairs) (sent : List Job) : Type 0 where
    pub outcomes : List Outcome
    pub some : frontier t known ≢ []
    pub round : Round JobsEnd caller (frontier t known) lines outcomes sent
    pub gains : more ≡ known ++ paired (frontier t known) outcomes

  -- this many rounds, one after another
  abbrev pub Rounds : ℕ → List Entry → Pairs → List Job → Type 0
  Rounds zero lines known sent = (lines ≡ []) × (known ≡ []) × (sent ≡ [])
  Rounds (suc n) lines known sent = (before : List Entry) × (last : List Entry) × (past : Pairs) × (earlier : List Job) × (later : List Job)
      × (lines ≡ before ++ last) × (sent ≡ earlier ++ later) × Rounds n before past earlier × LastRound past last known later

  -- an evaluation: after this many rounds the term waits for no key, and gives the answer
  abbrev pub Evaluates : List Entry → Answer → ℕ → List Job → Type 0
  Evaluates lines a rounds sent = (known : Pairs) × Rounds rounds lines known sent × (frontier t known ≡ []) × gives t known a

-- an evaluation that fetches its jobs on the caller's own thread
abbrev pub EvaluatesInline : Service → ℕ → Tree → List Entry → Answer → ℕ → Type 0
EvaluatesInline service caller t lines a rounds = Evaluates (EndedInline service caller) caller t lines a rounds []

-- an evaluation that sends its jobs to fetch workers
abbrev pub EvaluatesQueued : ℕ → Tree → List Entry → Answer → ℕ → List Job → Type 0
EvaluatesQueued caller t = Evaluates (HandedOver caller) caller t

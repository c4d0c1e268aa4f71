-- What contracts see of a run of a term, and what its polls do.
pub use Rattle.dl_terms.specs.Reduction.{MeansSame}
use Rattle.std.specs.Prelude.{◌≡◌, ◌≢◌, ◌⊎◌, true, false, List, [], ◌++◌, length, Option, Some, None, Result, IfOk}
use Rattle.dl_values.specs.Key.{Key}
use Rattle.dl_values.specs.declared.outcome.Outcome.{Outcome}
use Rattle.dl_loader.specs.Pass.{Ticket}
use Rattle.dl_terms.specs.declared.answer.Answer.{Answer}
use Rattle.dl_terms.specs.Tree.{Tree}
use Rattle.dl_terms.specs.TermAnswers.{Pairs, outcome_in, answer, gives, frontier}
use Rattle.dl_terms.specs.Rounds.{KnowsMore}
use Rattle.dl_haxl.specs.Pairs.{paired, all_show, outcomes_shown}
use Rattle.dl_haxl.specs.declared.fault.PollFault.{PollFault}
use Rattle.dl_haxl.specs.declared.stage.Stage.{Stage}
use Rattle.dl_haxl.specs.declared.stage.Stage.TheVariants.{Learning, Wanting, Ended}

-- a run: what is left of its term, the pairs that it knows, the keys that it waits for, and the tickets of the last
-- supply
pub record Run : Type 0 where
  pub stage : Stage
  pub left : Tree
  pub learned : Pairs
  pub keys : List Key
  pub tickets : List Ticket

abbrev pub wanted_at : Stage → List Key → List Key
wanted_at Learning ks = []
wanted_at Wanting ks = ks
wanted_at (Ended fault) ks = []

abbrev pub asked_at : Stage → List Key → List Key
asked_at Learning ks = ks
asked_at Wanting ks = []
asked_at (Ended fault) ks = []

abbrev pub ended_at : Stage → Option PollFault
ended_at Learning = None
ended_at Wanting = None
ended_at (Ended fault) = Some fault

-- the keys to load
abbrev pub wanted_by : Run → List Key
wanted_by r = wanted_at r.stage r.keys

-- the keys of the tickets whose outcomes the run doesn't know yet
abbrev pub asked_by : Run → List Key
asked_by r = asked_at r.stage r.keys

-- what each poll answers, once one gave the answer or memory ran out
abbrev pub ended_by : Run → Option PollFault
ended_by r = ended_at r.stage

-- it is a run of the term t
abbrev pub IsRunOf : Tree → Run → Type 0
IsRunOf t r = MeansSame (outcome_in r.learned) t r.left

-- every supplied ticket shows its outcome, and the run learns each key that it asked for by the key's own ticket
pub record Learns (old new : Run) : Type 0 where
  pub shown : all_show new.tickets ≡ true
  pub learned : new.learned ≡ old.learned ++ paired (asked_by old) (outcomes_shown new.tickets)

-- a supplied ticket shows no outcome yet: the run wants nothing, and waits for the same tickets
pub record StillWaits (old new : Run) : Type 0 where
  pub unshown : all_show new.tickets ≡ false
  pub none : wanted_by new ≡ []
  pub asked : asked_by new ≡ asked_by old
  pub learned : new.learned ≡ old.learned

-- the run wants keys: all that the term waits for, with what the run knows
pub record NowWants (old new : Run) : Type 0 where
  pub learns : Learns old new
  pub some : wanted_by new ≢ []
  pub all : (t : Tree) → IsRunOf t old → wanted_by new ≡ frontier t new.learned

-- the answer is the term's, with what the run knows
pub record Finishes (old new : Run) (a : Answer) : Type 0 where
  pub learns : Learns old new
  pub given : (t : Tree) → IsRunOf t old → gives t new.learned a

-- ---- what holds of the fields of a run, by its stage

-- the run has a ticket for each key
pub record Supplied (r : Run) : Type 0 where
  pub each : length r.keys ≡ length r.tickets

-- the keys are all that the term waits for, and each earlier ticket shows its outcome
pub record Waiting (r : Run) : Type 0 where
  pub frontier : r.keys ≡ frontier r.left r.learned
  pub some : r.keys ≢ []
  pub shown : all_show r.tickets ≡ true

abbrev pub run_at : Stage → Tree → Pairs → List Key → List Ticket → Run
run_at stage left learned keys tickets = record { stage = stage; left = left; learned = learned; keys = keys; tickets = tickets }

-- ---- what a poll does

-- a pending poll leaves a run of the same term, which waits for tickets or for keys
pub record Pends (old new : Run) : Type 0 where
  pub run : (t : Tree) → IsRunOf t old → IsRunOf t new
  pub waits : StillWaits old new ⊎ NowWants old new

-- an answer that some poll may give: what is left gives it once the run knows more
abbrev pub MayAnswer : Run → Result Answer PollFault → Type 0
MayAnswer r result = IfOk result (λ a. (q : Key → Option Outcome) × KnowsMore (outcome_in r.learned) q × (answer q r.left ≡ Some a))

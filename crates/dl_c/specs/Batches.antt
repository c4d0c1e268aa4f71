-- The calls on batches as C makes them.
use Rattle.std.specs.Prelude.{◌≡◌, ℕ, ◌<◌, List, slice_get, IfSome, nat_le, if◌then◌else◌}
use Rattle.dl_desk.specs.History.{Atom, begun, members, jobs, jobs_from}
use Rattle.dl_desk.specs.Calls.{refusal}
use Rattle.dl_desk.specs.declared.call.DeskCall.{DeskCall}
use Rattle.dl_desk.specs.declared.call.DeskCall.TheVariants.{Dispatch}
use Rattle.dl_desk.specs.BatchBook.{BatchBook, StandsFor}
use Rattle.dl_c_values.specs.declared.codes.TheConstants.{DONE, OUT_OF_MEMORY, NO_BATCH}
use Rattle.dl_c_values.specs.declared.answers.Loaded.{Loaded}
use Rattle.dl_c_values.specs.declared.answers.Dispatched.{Dispatched}
use Rattle.dl_c_values.specs.declared.key_texts.KeyTexts.{KeyTexts}
use Rattle.dl_c.specs.Codes.{code_by}
use Rattle.dl_c_values.specs.Answers.{member_as, refused_as, sent_as, none_sent}
use Rattle.dl_c_values.specs.Keys.{Spells}
use Rattle.dl_c.specs.Calls.{Makes}

-- The answer to a dispatch: the batches that it sends stand in a row.
pub record AnswersDispatch (answer : Dispatched) (old new : BatchBook) : Type 0 where
  pub made : answer.code ≡ DONE → Makes old Dispatch new
  pub sent : answer.code ≡ DONE → (history : List Atom) → StandsFor old history → answer ≡ sent_as (jobs history)
  pub in_a_row : answer.code ≡ DONE → (history : List Atom) → StandsFor old history → jobs history ≡ jobs_from history answer.first answer.count
  pub refused : DONE < answer.code → (answer ≡ none_sent OUT_OF_MEMORY) × (new ≡ old)

-- The answer to an end of a batch is the code of what the history refuses, whole.
pub record AnswersEnd (call : DeskCall) (code : ℕ) (old new : BatchBook) : Type 0 where
  pub told : (history : List Atom) → StandsFor old history → code ≡ code_by (refusal old.rules history call)
  pub made : code ≡ DONE → Makes old call new
  pub refused : DONE < code → new ≡ old

-- the answer to a look-up of a batch's member by its index
abbrev pub member_answer : List Atom → ℕ → ℕ → Loaded
member_answer history b i = if nat_le (begun history) b then refused_as NO_BATCH else member_as (slice_get (members history b) i)

-- The answer to a look-up of a batch's member, which changes nothing.
pub record AnswersMember (b i : ℕ) (answer : Loaded) (old new : BatchBook) : Type 0 where
  pub kept : new ≡ old
  pub cell : (history : List Atom) → StandsFor old history → answer ≡ member_answer history b i

-- The answer to a look-up of the texts of a member's key, which changes nothing else.
pub record AnswersKey (b i code : ℕ) (before texts : KeyTexts) (old new : BatchBook) : Type 0 where
  pub kept : new ≡ old
  pub told : (history : List Atom) → StandsFor old history → code ≡ (member_answer history b i).code
  pub spelled : code ≡ DONE → (history : List Atom) → StandsFor old history → IfSome (slice_get (members history b) i) (λ m. Spells texts m.0)
  pub none : DONE < code → texts ≡ before

-- The calls of a desk as C makes them: what each answers, and the book that it leaves.
use Rattle.std.specs.Prelude.{◌≡◌, ℕ, ◌<◌, ◌≤◌, ◌⊎◌, List, None}
use Rattle.dl_values.specs.Key.{Key}
use Rattle.dl_desk.specs.History.{Atom, load_reply, prime_reply, held}
use Rattle.dl_desk.specs.Calls.{refusal, after}
use Rattle.dl_desk.specs.declared.call.DeskCall.{DeskCall}
use Rattle.dl_desk.specs.declared.call.DeskCall.TheVariants.{Load, Prime, Clear}
use Rattle.dl_desk.specs.BatchBook.{BatchBook, StandsFor}
use Rattle.dl_c_values.specs.declared.codes.TheConstants.{DONE, FRESH, OUT_OF_MEMORY}
use Rattle.dl_c_values.specs.declared.answers.Loaded.{Loaded}
use Rattle.dl_c.specs.Codes.{code_by}
use Rattle.dl_c.specs.Answers.{primed_as, held_as}
use Rattle.dl_c_values.specs.Answers.{loaded_as, refused_as}
use Rattle.dl_values.specs.KeyTexts.{IsKeyText}
use Rattle.dl_c_values.specs.Keys.{IsKeyFault}

-- A call is made. Whatever history the book stood for, it refuses nothing, and the new book stands for the one after the call.
pub record Makes (old : BatchBook) (call : DeskCall) (new : BatchBook) : Type 0 where
  pub rules : new.rules ≡ old.rules
  pub accepted : (history : List Atom) → StandsFor old history → refusal old.rules history call ≡ None
  pub stands : (history : List Atom) → StandsFor old history → StandsFor new (after old.rules history call)

-- A call is refused by a code, and leaves the book. Memory is short, or the history refuses the call so.
pub record Refuses (old : BatchBook) (call : DeskCall) (code : ℕ) (new : BatchBook) : Type 0 where
  pub kept : new ≡ old
  pub cause : (history : List Atom) → StandsFor old history → (code ≡ OUT_OF_MEMORY) ⊎ (code ≡ code_by (refusal old.rules history call))

-- A call on the key of two texts, which may be none.
pub record AnswersKeyed (k : Key) (call : DeskCall) (code : ℕ) (old new : BatchBook) : Type 0 where
  pub made : code ≤ FRESH → IsKeyText k × Makes old call new
  pub refused : FRESH < code → (IsKeyFault k code × (new ≡ old)) ⊎ (IsKeyText k × Refuses old call code new)

-- the answer to a load of the key
pub record AnswersLoad (k : Key) (answer : Loaded) (old new : BatchBook) : Type 0 where
  pub call : AnswersKeyed k (Load k) answer.code old new
  pub cell : answer.code ≤ FRESH → (history : List Atom) → StandsFor old history → answer ≡ loaded_as (load_reply old.rules history k)
  pub none : FRESH < answer.code → answer ≡ refused_as answer.code

-- the answer to a prime of the key
pub record AnswersPrime (k : Key) (answer : Loaded) (old new : BatchBook) : Type 0 where
  pub call : AnswersKeyed k (Prime k) answer.code old new
  pub cell : answer.code ≤ FRESH → (history : List Atom) → StandsFor old history → answer ≡ primed_as (prime_reply history k)
  pub none : FRESH < answer.code → answer ≡ refused_as answer.code

-- The answer to a look-up of the cell that is held for the key, which changes nothing.
pub record AnswersHeld (k : Key) (answer : Loaded) (old new : BatchBook) : Type 0 where
  pub kept : new ≡ old
  pub cell : answer.code ≤ FRESH → (history : List Atom) → StandsFor old history → answer ≡ held_as (held history k)
  pub key : answer.code ≤ FRESH → IsKeyText k
  pub none : FRESH < answer.code → IsKeyFault k answer.code × (answer ≡ refused_as answer.code)

-- the answer to a clear of the key
pub record AnswersClear (k : Key) (code : ℕ) (old new : BatchBook) : Type 0 where
  pub call : AnswersKeyed k (Clear k) code old new
  pub done : code ≤ FRESH → code ≡ DONE
  pub fault : FRESH < code → IsKeyFault k code

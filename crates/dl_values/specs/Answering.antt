-- What a source may answer to a list of keys.
use Rattle.std.specs.Prelude.{◌≡◌, Bool, true, List, length, ⊤}
use Rattle.std.specs.Coded.{Coded-set, coded_bool}
use Rattle.dl_values.specs.Key.{Key}
use Rattle.dl_values.specs.contracts.outcome.BatchAnswer as batch_answer
use Rattle.dl_values.specs.declared.outcome.BatchAnswer.{BatchAnswer}
use Rattle.dl_values.specs.declared.outcome.BatchAnswer.TheVariants.{Each, Break}

-- Either what its one function of the keys gives, or whatever passes its test of keys and answer.
pub data Answering : Type 0 where
  by_function : (List Key → BatchAnswer) → Answering
  by_test : (List Key → BatchAnswer → Bool) → Answering

-- each source answers by a function of its own
abbrev pub function : {S : Type 0} → (S → List Key → BatchAnswer) → S → Answering
function answer source = by_function (answer source)

-- each source answers as a test of its own allows
abbrev pub test : {S : Type 0} → (S → List Key → BatchAnswer → Bool) → S → Answering
test allows source = by_test (allows source)

-- this answer to these keys is allowed
abbrev pub MayAnswer : Answering → List Key → BatchAnswer → Type 0
MayAnswer (by_function answer) keys a = answer keys ≡ a
MayAnswer (by_test allows) keys a = allows keys a ≡ true

-- whatever the first allows, the second allows
abbrev pub IsWithin : Answering → Answering → Type 0
IsWithin first second = (keys : List Key) (a : BatchAnswer) → MayAnswer first keys a → MayAnswer second keys a

-- what may be answered has one proof, so a value may carry it
pub MayAnswer-prop : (answering : Answering) (keys : List Key) (a : BatchAnswer) → IsProp (MayAnswer answering keys a)
MayAnswer-prop (by_function answer) keys a = Coded-set batch_answer.the_row.coded (answer keys) a
MayAnswer-prop (by_test allows) keys a = Coded-set coded_bool (allows keys a) true

-- an answer for these keys: it has as many outcomes as there are keys, or it breaks
abbrev pub IsFor : List Key → BatchAnswer → Type 0
IsFor keys (Each outcomes) = length outcomes ≡ length keys
IsFor keys (Break text) = ⊤

-- each of its answers is one for the keys
abbrev pub Fits : Answering → Type 0
Fits (by_function answer) = (keys : List Key) → IsFor keys (answer keys)
Fits (by_test allows) = (keys : List Key) (a : BatchAnswer) → allows keys a ≡ true → IsFor keys a

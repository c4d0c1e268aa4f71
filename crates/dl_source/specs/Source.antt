-- What every answer of a source keeps.
use Rattle.std.specs.Prelude.{List}
use Rattle.std.proofs.Common.{subst}
use Rattle.dl_values.specs.Answering.{Answering, by_function, by_test, Fits, IsFor, MayAnswer}
use Rattle.dl_values.specs.Key.{Key}
use Rattle.dl_values.specs.declared.outcome.BatchAnswer.{BatchAnswer}

-- what a source may answer is an answer for the keys
pub answer_is_for : (answering : Answering) → Fits answering → (keys : List Key) (a : BatchAnswer) → MayAnswer answering keys a → IsFor keys a
answer_is_for (by_function answer) fits keys a is = subst (IsFor keys) is (fits keys)
answer_is_for (by_test allows) fits keys a is = fits keys a is

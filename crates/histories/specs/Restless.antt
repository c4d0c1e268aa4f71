-- What tables answer that yield.
use Rattle.std.specs.Prelude.{List}
use Rattle.dl_values.specs.Answering.{IsFor}
use Rattle.dl_values.specs.Key.{Key}
use Rattle.dl_values.specs.declared.outcome.BatchAnswer.{BatchAnswer}
use Rattle.dl_source.specs.Answer.{answer_of}
use Rattle.dl_source.specs.AnswerFits.{answer_fits}
use Rattle.histories.specs.declared.restless.Restless.{Restless}

-- what the tables answer, whenever they are asked
abbrev pub answer_restless : Restless → List Key → BatchAnswer
answer_restless source keys = answer_of source.tables keys

-- which has as many outcomes as there are keys, or breaks
pub restless_fits : (source : Restless) (keys : List Key) → IsFor keys (answer_restless source keys)
restless_fits source keys = answer_fits source.tables keys

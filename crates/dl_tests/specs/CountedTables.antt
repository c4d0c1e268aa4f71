-- What tables answer that count how often they are asked.
use Rattle.std.specs.Prelude.{List}
use Rattle.dl_values.specs.Answering.{IsFor}
use Rattle.dl_values.specs.Key.{Key}
use Rattle.dl_values.specs.declared.outcome.BatchAnswer.{BatchAnswer}
use Rattle.dl_source.specs.Answer.{answer_of}
use Rattle.dl_source.specs.AnswerFits.{answer_fits}
use Rattle.dl_tests.specs.declared.counted_tables.CountedTables.{CountedTables}

-- what the tables answer, however often they were asked
abbrev pub answer_counted : CountedTables → List Key → BatchAnswer
answer_counted source keys = answer_of source.tables keys

-- which has as many outcomes as there are keys, or breaks
pub counted_fits : (source : CountedTables) (keys : List Key) → IsFor keys (answer_counted source keys)
counted_fits source keys = answer_fits source.tables keys

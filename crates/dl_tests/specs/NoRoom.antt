-- What tables answer that have no memory for one of them.
use Rattle.std.specs.Prelude.{List}
use Rattle.dl_values.specs.Answering.{IsFor}
use Rattle.dl_values.specs.Key.{Key}
use Rattle.dl_values.specs.declared.outcome.BatchAnswer.{BatchAnswer}
use Rattle.dl_source.specs.Answer.{answer_of}
use Rattle.dl_source.specs.AnswerFits.{answer_fits}
use Rattle.dl_tests.specs.declared.no_room.NoRoom.{NoRoom}

-- what the tables answer
abbrev pub answer_without_room : NoRoom → List Key → BatchAnswer
answer_without_room source keys = answer_of source.tables keys

-- which has as many outcomes as there are keys, or breaks
pub without_room_fits : (source : NoRoom) (keys : List Key) → IsFor keys (answer_without_room source keys)
without_room_fits source keys = answer_fits source.tables keys

-- What the source of a host answers: a mark for each key, in place of what the host has for the key's cell.
use Rattle.std.specs.Prelude.{List, map}
use Rattle.std.proofs.lemmas.List.{length-map}
use Rattle.serde_json.specs.Data.{null}
use Rattle.dl_values.specs.Answering.{Answering, by_function}
use Rattle.dl_values.specs.Key.{Key}
use Rattle.dl_values.specs.declared.outcome.Outcome.{Outcome}
use Rattle.dl_values.specs.declared.outcome.Outcome.TheVariants.{Value}
use Rattle.dl_values.specs.declared.outcome.BatchAnswer.{BatchAnswer}
use Rattle.dl_values.specs.declared.outcome.BatchAnswer.TheVariants.{Each}
use Rattle.dl_values.specs.Answering.{IsFor}
use Rattle.dl_loader.specs.declared.host_source.HostSource.{HostSource}

abbrev pub mark : Outcome
mark = Value null

abbrev pub marks : List Key → BatchAnswer
marks keys = Each (map (λ key. mark) keys)

-- the one function by which it answers
abbrev pub answer_of : HostSource → List Key → BatchAnswer
answer_of source keys = marks keys

pub answer_fits : (source : HostSource) (keys : List Key) → IsFor keys (answer_of source keys)
answer_fits source keys = length-map keys (λ key. mark)

-- what the source of every host may answer
abbrev pub by_marks : Answering
by_marks = by_function marks

-- What a source answers that answers every key alike.
use Rattle.std.specs.Prelude.{List, map}
use Rattle.std.proofs.lemmas.List.{length-map}
use Rattle.dl_values.specs.Answering.{IsFor}
use Rattle.dl_values.specs.Key.{Key}
use Rattle.dl_values.specs.declared.outcome.Outcome.{Outcome}
use Rattle.dl_values.specs.declared.outcome.Outcome.TheVariants.{Value}
use Rattle.dl_values.specs.declared.outcome.BatchAnswer.{BatchAnswer}
use Rattle.dl_values.specs.declared.outcome.BatchAnswer.TheVariants.{Each}
use Rattle.dl_bench.specs.declared.alike.Alike.{Alike}

-- its value for each key
abbrev pub outcomes_alike : Alike → List Key → List Outcome
outcomes_alike source keys = map (λ k. Value source.value) keys

-- the one function by which it answers
abbrev pub answer_alike : Alike → List Key → BatchAnswer
answer_alike source keys = Each (outcomes_alike source keys)

-- which has as many outcomes as there are keys
pub answer_fits : (source : Alike) (keys : List Key) → IsFor keys (answer_alike source keys)
answer_fits source keys = length-map keys (λ k. Value source.value)

-- The weakest test of a source: its answer is one for the keys.
use Rattle.std.specs.Prelude.{Bool, true, List, length, nat_eq}
use Rattle.std.proofs.lemmas.Bool.{eqb-true}
use Rattle.dl_values.specs.Answering.{Fits, by_test}
use Rattle.dl_values.specs.Key.{Key}
use Rattle.dl_values.specs.declared.outcome.BatchAnswer.{BatchAnswer}
use Rattle.dl_values.specs.declared.outcome.BatchAnswer.TheVariants.{Each, Break}

-- the answer has as many outcomes as there are keys, or it breaks
abbrev pub is_for : List Key → BatchAnswer → Bool
is_for keys (Each outcomes) = nat_eq (length outcomes) (length keys)
is_for keys (Break text) = true

pub is_for_fits : Fits (by_test is_for)
is_for_fits keys (Each outcomes) same = eqb-true (length outcomes) (length keys) same
is_for_fits keys (Break text) same = tt

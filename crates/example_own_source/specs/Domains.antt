-- What the source of domains answers.
use Rattle.std.specs.Prelude.{ℕ, List, Bool, length, map, nat_lt, ◌==◌, codes, if◌then◌else◌}
use Rattle.std.specs.List.{position_or_len, after_first}
use Rattle.std.proofs.lemmas.List.{length-map}
use Rattle.serde_json.specs.Data.{object, member, no_members, string}
use Rattle.dl_values.specs.Answering.{IsFor}
use Rattle.dl_values.specs.Key.{Key}
use Rattle.dl_values.specs.declared.outcome.Outcome.{Outcome}
use Rattle.dl_values.specs.declared.outcome.Outcome.TheVariants.{Value, KeyError}
use Rattle.dl_values.specs.declared.outcome.BatchAnswer.{BatchAnswer}
use Rattle.dl_values.specs.declared.outcome.BatchAnswer.TheVariants.{Each}
use Rattle.example_own_source.specs.declared.domains.Domains.{Domains}

-- a dot, in ASCII
abbrev pub is_dot : ℕ → Bool
is_dot byte = byte == 46

-- the first dot stands before the end
abbrev pub has_dot : List ℕ → Bool
has_dot id = nat_lt (position_or_len is_dot id) (length id)

-- the outcome of a domain: the row of what stands behind its first dot
abbrev pub outcome_of : List ℕ → Outcome
outcome_of id = if has_dot id then Value (object (member (codes "parent") (string (after_first is_dot id)) no_members)) else KeyError (codes "no parent")

-- the one function by which the source answers
abbrev pub answer_of : Domains → List Key → BatchAnswer
answer_of source keys = Each (map (λ key. outcome_of key.id) keys)

-- which has as many outcomes as there are keys
pub answer_fits : (source : Domains) (keys : List Key) → IsFor keys (answer_of source keys)
answer_fits source keys = length-map keys (λ key. outcome_of key.id)

-- What step a tree spells, found from the tree.
use Rattle.std.specs.Prelude.{ℕ, ◌&&◌, List, length, codes, nat_le, bytes_eq, Option, Some, None, option_map, option_and_then, if◌then◌else◌}
use Rattle.std.specs.Option.{option_zip}
use Rattle.serde_json.specs.Data.{Data}
use Rattle.serde_json.specs.Find.{as_str}
use Rattle.dl_values.specs.declared.outcome.Outcome.{Outcome}
use Rattle.dl_values.specs.declared.outcome.Outcome.TheVariants.{Value, KeyError}
use Rattle.dl_source.specs.Faults.{text_bytes}
use Rattle.dl_documents.specs.Reading.{one_in, two_in, key_in, is_true}
use Rattle.dl_terms.specs.Tree.{Tree}
use Rattle.dl_documents.specs.Steps.{StepTree, prime, clear, clear_all, eval}
use Rattle.dl_documents.specs.Terms.{has_forms}
use Rattle.dl_documents.specs.TermReading.{value_in, term_in}
use Rattle.dl_documents.specs.declared.forms.Forms.{Forms}

-- ---- outcomes

abbrev pub short : List ℕ → Option (List ℕ)
short text = if nat_le (length text) text_bytes then Some text else None

-- the text of an error, if it isn't too long
abbrev pub error_in : Data → Option (List ℕ)
error_in d = option_and_then short (as_str d)

-- the outcome of a name and an argument
abbrev pub primed_named : List ℕ → Data → Option Outcome
primed_named name d =
    if bytes_eq name (codes "value") then option_map Value (value_in d)
    else if bytes_eq name (codes "error") then option_map KeyError (error_in d)
    else None

-- the outcome that a tree primes
abbrev pub primed_in : Data → Option Outcome
primed_in d = option_and_then (λ p. primed_named p.0 p.1) (one_in d)

-- ---- steps

abbrev pub primes : Data × Data → Option StepTree
primes p = option_map (λ q. prime q.0 q.1) (option_zip (key_in p.0) (primed_in p.1))

-- a term, if it has only these forms
abbrev pub of_forms : Forms → Tree → Option Tree
of_forms forms t = if has_forms forms t then Some t else None

-- the step of a name and an argument, whose term may have these forms
abbrev pub step_named : Forms → List ℕ → Data → Option StepTree
step_named forms name d =
    if bytes_eq name (codes "prime") then option_and_then primes (two_in d)
    else if bytes_eq name (codes "clear") then option_map clear (key_in d)
    else if bytes_eq name (codes "clearAll") && is_true d then Some clear_all
    else if bytes_eq name (codes "eval") then option_map eval (option_and_then (of_forms forms) (term_in d))
    else None

-- the step that a tree spells
abbrev pub step_in : Forms → Data → Option StepTree
step_in forms d = option_and_then (λ p. step_named forms p.0 p.1) (one_in d)

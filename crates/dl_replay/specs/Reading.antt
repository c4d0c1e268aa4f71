-- What a host says of each call, found from a JSON tree: a list with a list of whole numbers for each call, of which the first is the
-- caller and the others are the answer.
use Rattle.std.specs.Prelude.{ℕ, List, [], ◌∷◌, Option, Some, None, option_and_then}
use Rattle.serde_json.specs.Data.{Data, Items, no_items, item}
use Rattle.serde_json.specs.Find.{as_array}
use Rattle.dl_terms.specs.TermAnswers.{both}
use Rattle.dl_documents.specs.Reading.{number_in}
use Rattle.dl_replay.specs.declared.told.Told.{Told}

abbrev pub numbers_listed : Items → Option (List ℕ)
numbers_listed no_items = Some []
numbers_listed (item d ds) = both (number_in d) (numbers_listed ds)

-- the numbers of a list, each a whole number below 2^32
abbrev pub numbers_in : Data → Option (List ℕ)
numbers_in d = option_and_then numbers_listed (as_array d)

-- a caller, and the numbers of an answer
abbrev pub told_of : List ℕ → Option (ℕ × List ℕ)
told_of [] = None
told_of (caller ∷ answer) = Some (caller, answer)

abbrev pub one_told_in : Data → Option (ℕ × List ℕ)
one_told_in d = option_and_then told_of (numbers_in d)

abbrev pub told_listed : Items → Option (List (ℕ × List ℕ))
told_listed no_items = Some []
told_listed (item d ds) = both (one_told_in d) (told_listed ds)

-- what is told of each call
abbrev pub told_in : Data → Option (List (ℕ × List ℕ))
told_in d = option_and_then told_listed (as_array d)

abbrev pub told_view : Told → ℕ × List ℕ
told_view t = (t.caller, t.answer.items)

-- The data that tokens begin with, and the tokens behind it. Lists and objects nest as deep as the number at most.
use Rattle.std.specs.Prelude.{ℕ, List, length, Option}
use Rattle.json.specs.Json.{value, items, members}
use Rattle.json.specs.Token.{Token}
use Rattle.serde_json.specs.Data.{Data, Items, Members, no_members}
use Rattle.serde_json.specs.Read.{of_json, of_items, of_members, converted}

abbrev pub first_value : ℕ → List Token → Option (Data × List Token)
first_value depth ts = converted of_json (value depth ts)

-- the items of a list, whose bracket was read
abbrev pub first_items : ℕ → List Token → Option (Items × List Token)
first_items depth ts = converted of_items (items (value depth) (length ts) ts)

-- the members of an object, whose brace was read
abbrev pub first_members : ℕ → List Token → Option (Members × List Token)
first_members depth ts = converted (λ ms. of_members ms no_members) (members (value depth) (length ts) ts)

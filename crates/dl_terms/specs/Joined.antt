-- The members that names and values make.
use Rattle.std.specs.Prelude.{ℕ, List, [], ◌∷◌, Option, Some, None}
use Rattle.serde_json.specs.Data.{Data, Items, no_items, item, Members, no_members, put}

-- of two members with the same name the first counts
abbrev pub members_with : List (List ℕ) → Items → Members
members_with [] ds = no_members
members_with (n ∷ names) no_items = no_members
members_with (n ∷ names) (item d ds) = put n d (members_with names ds)

abbrev pub put_named : Option (List ℕ) → Data → Members → Members
put_named None d ms = ms
put_named (Some n) d ms = put n d ms

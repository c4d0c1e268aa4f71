-- What a tree spells, found from the tree.
use Rattle.std.specs.Prelude.{ℕ, ◌^◌, ◌&&◌, List, [], Bool, false, codes, nat_lt, bytes_eq, Option, Some, None, if◌then◌else◌}
use Rattle.std.specs.Prelude.{option_map, option_and_then, unwrap_or}
use Rattle.std.specs.Option.{option_zip}
use Rattle.serde_json.specs.Data.{Data, Items, no_items, item, Members, no_members, member}
use Rattle.serde_json.specs.Find.{as_array, as_str, as_object, as_bool, as_number, as_u64}
use Rattle.dl_values.specs.Key.{Key, table_bytes, id_bytes}
use Rattle.dl_source.specs.Faults.{is_sized}
use Rattle.dl_terms.specs.TermAnswers.{both}
use Rattle.dl_desk.specs.declared.call.DeskCall.{DeskCall}
use Rattle.dl_desk.specs.declared.call.DeskCall.TheVariants.{Load, LoadMany, Prime, Clear, ClearAll, Dispatch, Settle, Fail}

-- ---- members and items

abbrev pub one_of : Members → Option (List ℕ × Data)
one_of no_members = None
one_of (member k d no_members) = Some (k, d)
one_of (member k d (member l e ms)) = None

-- the name and the value of an object's one member
abbrev pub one_in : Data → Option (List ℕ × Data)
one_in d = option_and_then one_of (as_object d)

abbrev pub two_of : Items → Option (Data × Data)
two_of no_items = None
two_of (item a no_items) = None
two_of (item a (item b no_items)) = Some (a, b)
two_of (item a (item b (item c ds))) = None

-- the items of a list of two
abbrev pub two_in : Data → Option (Data × Data)
two_in d = option_and_then two_of (as_array d)

abbrev pub three_of : Items → Option (Data × Data × Data)
three_of no_items = None
three_of (item a no_items) = None
three_of (item a (item b no_items)) = None
three_of (item a (item b (item c no_items))) = Some (a, b, c)
three_of (item a (item b (item c (item d ds)))) = None

-- the items of a list of three
abbrev pub three_in : Data → Option (Data × Data × Data)
three_in d = option_and_then three_of (as_array d)

-- ---- arguments

abbrev pub texts_of : Data × Data → Option (List ℕ × List ℕ)
texts_of p = option_zip (as_str p.0) (as_str p.1)

-- the two texts of a list of two
abbrev pub texts_in : Data → Option (List ℕ × List ℕ)
texts_in d = option_and_then texts_of (two_in d)

abbrev pub keyed : List ℕ × List ℕ → Option Key
keyed p = if is_sized table_bytes p.0 && is_sized id_bytes p.1 then Some (record { table = p.0; id = p.1 }) else None

-- the key that a tree spells
abbrev pub key_in : Data → Option Key
key_in d = option_and_then keyed (texts_in d)

abbrev pub keys_listed : Items → Option (List Key)
keys_listed no_items = Some []
keys_listed (item d ds) = both (key_in d) (keys_listed ds)

-- the keys of a list of keys
abbrev pub keys_in : Data → Option (List Key)
keys_in d = option_and_then keys_listed (as_array d)

-- whether a tree is `true`
abbrev pub is_true : Data → Bool
is_true d = unwrap_or (as_bool d) false

abbrev pub batch_number : ℕ → Option ℕ
batch_number n = if nat_lt n (2 ^ 32) then Some n else None

-- the number of a batch that a tree spells
abbrev pub number_in : Data → Option ℕ
number_in d = option_and_then batch_number (option_and_then as_u64 (as_number d))

-- ---- calls

-- the call of a name and an argument
abbrev pub call_named : List ℕ → Data → Option DeskCall
call_named name d =
    if bytes_eq name (codes "load") then option_map Load (key_in d)
    else if bytes_eq name (codes "loadMany") then option_map LoadMany (keys_in d)
    else if bytes_eq name (codes "prime") then option_map Prime (key_in d)
    else if bytes_eq name (codes "clear") then option_map Clear (key_in d)
    else if bytes_eq name (codes "clearAll") && is_true d then Some ClearAll
    else if bytes_eq name (codes "dispatch") && is_true d then Some Dispatch
    else if bytes_eq name (codes "settle") then option_map Settle (number_in d)
    else if bytes_eq name (codes "fail") then option_map Fail (number_in d)
    else None

-- the call that a tree spells
abbrev pub call_in : Data → Option DeskCall
call_in d = option_and_then (λ p. call_named p.0 p.1) (one_in d)

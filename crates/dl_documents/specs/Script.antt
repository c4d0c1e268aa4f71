-- How keys and calls of a script are spelled in JSON: each has one tree.
use Rattle.std.specs.Prelude.{ℕ, ◌^◌, ◌<◌, List, map, true, codes}
use Rattle.std.specs.List.{AllByRecursion}
use Rattle.serde_json.specs.Data.{Data, unsigned, boolean, number, string, array, object, Items, no_items, item, no_members, member}
use Rattle.serde_json.specs.View.{items_of}
use Rattle.dl_values.specs.Key.{Key, IsKey}
use Rattle.dl_desk.specs.declared.call.DeskCall.{DeskCall}
use Rattle.dl_desk.specs.declared.call.DeskCall.TheVariants.{Load, LoadMany, Prime, Clear, ClearAll, Dispatch, Settle, Fail}

-- a key is the list of its two texts
abbrev pub key_tree : Key → Data
key_tree k = array (item (string k.table) (item (string k.id) no_items))

-- an object with one member
abbrev pub one : List ℕ → Data → Data
one name d = object (member name d no_members)

-- a call is an object with one member, its name, whose value is its argument
abbrev pub call_tree : DeskCall → Data
call_tree (Load k) = one (codes "load") (key_tree k)
call_tree (LoadMany ks) = one (codes "loadMany") (array (items_of (map key_tree ks)))
call_tree (Prime k) = one (codes "prime") (key_tree k)
call_tree (Clear k) = one (codes "clear") (key_tree k)
call_tree ClearAll = one (codes "clearAll") (boolean true)
call_tree Dispatch = one (codes "dispatch") (boolean true)
call_tree (Settle b) = one (codes "settle") (number (unsigned b))
call_tree (Fail b) = one (codes "fail") (number (unsigned b))

-- a call's keys are keys, and its number is one of a batch, below 2^32
abbrev pub IsScriptCall : DeskCall → Type 0
IsScriptCall (Load k) = IsKey k
IsScriptCall (LoadMany ks) = AllByRecursion IsKey ks
IsScriptCall (Prime k) = IsKey k
IsScriptCall (Clear k) = IsKey k
IsScriptCall ClearAll = Unit {0}
IsScriptCall Dispatch = Unit {0}
IsScriptCall (Settle b) = b < 2 ^ 32
IsScriptCall (Fail b) = b < 2 ^ 32

-- the list of calls
abbrev pub calls_tree : List DeskCall → Items
calls_tree cs = items_of (map call_tree cs)

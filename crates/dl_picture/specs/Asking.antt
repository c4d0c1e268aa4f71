-- What a term knows, and what its contracts see of keys, lists and names.
use Rattle.std.specs.Prelude.{List, Option, Some, None, Result, Ok, Err, Vec}
use Rattle.std.specs.Borrow.{Bor}
use Rattle.std.specs.declared.alloc.Global.{Global}
use Rattle.serde_json.specs.Data.{Data}
use Rattle.serde_json.specs.View.{items_of}
use Rattle.dl_values.specs.Key.{Key}
use Rattle.dl_values.specs.declared.outcome.Outcome.{Outcome}
use Rattle.dl_terms.specs.Tree.{Name}
use Rattle.dl_terms.specs.TermAnswers.{Joint, listing, naming, Listed, Target}
use Rattle.dl_terms.specs.declared.answer.EvalFault.{EvalFault}
use Rattle.dl_terms.specs.declared.answer.EvalFault.TheVariants as why
use Rattle.dl_picture.specs.TermLoads.{known_by}
use Rattle.dl_picture.specs.declared.knowledge.Knowledge.{Knowledge}

-- the outcome of each key that was read
abbrev pub known_of : Knowledge → Key → Option Outcome
known_of k = known_by k.history.now.events k.cells.now.entries

-- the target of an id in a table, if it is a key
abbrev pub target_of : Option Key → Target
target_of None = Target.none why.NotAKey
target_of (Some k) = Target.key k

-- the items to go over, or the fault in their place
abbrev pub listed_as : Result (Vec Data Global) EvalFault → Listed
listed_as (Ok vs) = Listed.items (items_of vs.items)
listed_as (Err f) = Listed.none f

-- as a list, or as an object with these names
abbrev pub joint_by : Option (Bor (List Name)) → Joint
joint_by None = listing
joint_by (Some names) = naming names.now

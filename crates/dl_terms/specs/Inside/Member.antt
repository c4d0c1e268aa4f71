-- The member of a value that has a name.
use Rattle.std.specs.Prelude.{◌≡◌, Option, Some, None, false}
use Rattle.serde_json.specs.Data.{Data}
use Rattle.serde_json.specs.View.{view}
use Rattle.serde_json.specs.Written.{has_float}
use Rattle.dl_terms.specs.declared.member.Member.{Member}
use Rattle.dl_terms.specs.declared.member.Member.TheVariants.{Missing, Lent, Own}

-- its tree, if there is one
abbrev pub member_data : Member → Option Data
member_data Missing = None
member_data (Lent v) = Some (view v.now)
member_data (Own d) = Some d

-- no number of one that a row lends is a float
abbrev pub IsWhole : Member → Type 0
IsWhole Missing = Unit {0}
IsWhole (Lent v) = has_float (view v.now) ≡ false
IsWhole (Own d) = Unit {0}

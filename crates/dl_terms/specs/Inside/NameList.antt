-- What a list of names keeps with the names.
use Rattle.std.specs.Prelude.{◌≡◌, map}
use Rattle.dl_terms.specs.declared.names.NameList.{NameList}
use Rattle.dl_terms.specs.Named.{are_ascending, label}

-- the labels are those of the names, and whether the names ascend is known
pub record AreKnown (l : NameList) : Type 0 where
  pub labels : l.labels.items ≡ map label l.names.items
  pub ascending : l.ascending ≡ are_ascending l.names.items

-- What an entry tells.
use Rattle.dl_history.specs.declared.entry.Kind.{Kind}
use Rattle.dl_history.specs.declared.entry.Kind.TheVariants as kind
use Rattle.dl_history.specs.Entries.{Entry, Called, Saw}

abbrev pub entry_of : {X : Type 0} → Kind X → Entry
entry_of (kind.Call t) = Called t
entry_of (kind.Saw r) = Saw r

-- What contracts see of what is known of a loader's flags.
use Rattle.std.specs.Prelude.{Bool}

-- whether the loader is known to be stopped, and whether a cell is known to have refused its outcome
pub record KnownFlags : Type 0 where
  pub stopped : Bool
  pub refused : Bool

abbrev pub known_flags : Bool → Bool → KnownFlags
known_flags stopped refused = record { stopped = stopped; refused = refused }

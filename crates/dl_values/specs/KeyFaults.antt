-- Which fault you get instead of a key.
use Rattle.std.specs.Prelude.{◌≡◌, ℕ, ◌<◌, ◌≤◌, List, length}
use Rattle.dl_values.specs.Key.{IsKey, table_bytes, id_bytes}
use Rattle.dl_values.specs.declared.fault.KeyFault.{KeyFault}
use Rattle.dl_values.specs.declared.fault.KeyFault.TheVariants.{EmptyTable, TableTooLong, EmptyId, IdTooLong, OutOfMemory}

-- The fault is the first one that the texts have. Memory runs out only for texts that have none.
abbrev pub RefusedAs : List ℕ → List ℕ → KeyFault → Type 0
RefusedAs table id EmptyTable = length table ≡ 0
RefusedAs table id TableTooLong = table_bytes < length table
RefusedAs table id EmptyId = (1 ≤ length table) × (length table ≤ table_bytes) × (length id ≡ 0)
RefusedAs table id IdTooLong = (1 ≤ length table) × (length table ≤ table_bytes) × (id_bytes < length id)
RefusedAs table id OutOfMemory = IsKey (record { table = table; id = id })

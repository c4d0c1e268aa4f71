-- What of the tables that answer may be shared by threads.
use denote.Ref.{NamedLft}
use denote.Struct.Field.{shr_ref_field}
use denote.Param.SendFields.{declared_sync, as_row_sync}
use denote.Param.Send.{IsSync, sendable, shr_sync}
use Rattle.std.proofs.Crossing.{crosses as owners_cross}
use Rattle.std.proofs.MapsCrossing.{crosses as maps_cross}
use Rattle.dl_history.proofs.ThreadSafety.{Json-sync}
use Rattle.dl_values.proofs.message.Message.TheSendSync as message
use Rattle.dl_source.specs.contracts.tables.Tables as Tables
use Rattle.dl_plans.specs.contracts.joined_tables.JoinedTables as JoinedTables
use Rattle.dl_plans.specs.contracts.joined_tables.JoinedTables.TheInside as inside

pub Tables-sync : IsSync Tables.the_row
Tables-sync = search (Json-sync, message.the_sync, owners_cross, maps_cross, sendable) depth 40 fits 20000

module _ (a : NamedLft) where
  inside_sync : IsSync (inside.the_row a)
  inside_sync = declared_sync (inside.the_type a) (
    as_row_sync (shr_ref_field a Tables.the_row tt) (shr_sync _ _ _ Tables-sync),
    (
      search (as_row_sync, owners_cross, maps_cross, sendable) depth 30 fits 20000,
      (search (as_row_sync, Tables-sync, owners_cross, maps_cross, sendable) depth 30 fits 20000, tt),
    ),
  )

  pub JoinedTables-sync : IsSync (JoinedTables.the_row a)
  JoinedTables-sync = search (inside_sync, sendable) depth 10

-- What a closure captures may go to another thread where each part of it may.
use mathlib.Core.List.{List, [], ◌∷◌}
use mir.Syntax.{Sym}
use denote.RattleType.{RattleType}
use denote.Struct.Struct.{Struct}
use denote.Struct.Field.{rows}
use denote.Struct.Declared.{shape}
use denote.Struct.Tuple.{TupleAt, type_at, parts}
use denote.Param.Send.{IsSend, IsSync, AllSend, AllSync, recorded_send, recorded_sync, struct_send, struct_sync}

all_send : (Ts : List RattleType) → AllSend Ts → AllSend (rows (parts Ts))
all_send [] s = tt
all_send (T ∷ Ts) s = (s.0, all_send Ts s.1)

all_sync : (Ts : List RattleType) → AllSync Ts → AllSync (rows (parts Ts))
all_sync [] s = tt
all_sync (T ∷ Ts) s = (s.0, all_sync Ts s.1)

pub captures_send : (ν : Sym) (Ts : List RattleType) → AllSend Ts → IsSend (TupleAt ν Ts)
captures_send ν Ts s = recorded_send (Struct (shape (type_at ν Ts))) _ _ (type_at ν Ts).to_one (struct_send (shape (type_at ν Ts)) (all_send Ts s))

pub captures_sync : (ν : Sym) (Ts : List RattleType) → AllSync Ts → IsSync (TupleAt ν Ts)
captures_sync ν Ts s = recorded_sync (Struct (shape (type_at ν Ts))) _ _ (type_at ν Ts).to_one (struct_sync (shape (type_at ν Ts)) (all_sync Ts s))

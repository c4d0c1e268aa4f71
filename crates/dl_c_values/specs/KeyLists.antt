-- The keys that C hands in one after another.
use Rattle.std.specs.Prelude.{◌≡◌, ℕ, ◌+◌, ◌<◌, ◌≤◌, ◌⊎◌, List, length, take, drop}
use Rattle.std.specs.List.{All}
use Rattle.dl_values.specs.Key.{Key}
use Rattle.dl_values.specs.KeyTexts.{IsKeyText}
use Rattle.dl_c_values.specs.declared.codes.TheConstants.{OUT_OF_MEMORY, BAD_KEY, BAD_LENGTHS}
use Rattle.dl_c_values.specs.declared.key_texts.KeyLengths.{KeyLengths}
use Rattle.dl_c_values.specs.Cuts.{parts, total_by, IsFirstFault}

-- the key at the front of the bytes
abbrev pub front_key : List ℕ → KeyLengths → Key
front_key bytes l = record { table = take l.table bytes; id = take l.id (drop l.table bytes) }

-- how many bytes a key takes
abbrev pub key_width : KeyLengths → ℕ
key_width l = l.table + l.id

-- the keys that lengths cut the bytes into, from the front on
abbrev pub cut : List ℕ → List KeyLengths → List Key
cut bytes ls = parts key_width front_key bytes ls

-- how many bytes the lengths take
abbrev pub total : List KeyLengths → ℕ
total ls = total_by key_width ls

-- Why there is no key at the front of the bytes: they are too few for the lengths, it is none, or memory is short.
abbrev pub IsFrontFault : List ℕ → KeyLengths → ℕ → Type 0
IsFrontFault bytes l code = ((code ≡ BAD_LENGTHS) × (length bytes < l.table + l.id))
    ⊎ (((l.table + l.id ≤ length bytes) × (code ≡ BAD_KEY) × ¬ (IsKeyText (front_key bytes l))) ⊎ (code ≡ OUT_OF_MEMORY))

-- Why bytes aren't cut into keys: the first of them that can't be read tells, or memory is short.
abbrev pub IsCutFault : List ℕ → List KeyLengths → ℕ → Type 0
IsCutFault bytes ls code = IsFirstFault key_width front_key IsKeyText BAD_KEY bytes ls code ⊎ (code ≡ OUT_OF_MEMORY)

-- The lengths take all bytes and no more, and each key is one.
pub record AreKeys (bytes : List ℕ) (ls : List KeyLengths) : Type 0 where
  pub whole : total ls ≡ length bytes
  pub are_keys : All IsKeyText (cut bytes ls)

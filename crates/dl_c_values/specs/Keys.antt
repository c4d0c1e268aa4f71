-- The texts of keys as C hands them in and reads them back.
use Rattle.std.specs.Prelude.{◌≡◌, ℕ, ◌⊎◌, length, take}
use Rattle.dl_values.specs.Key.{Key}
use Rattle.dl_values.specs.KeyTexts.{IsKeyText}
use Rattle.dl_c_values.specs.declared.codes.TheConstants.{OUT_OF_MEMORY, BAD_KEY}
use Rattle.dl_c_values.specs.declared.key_texts.KeyTexts.{KeyTexts}

-- Why no key is made of two texts: they are none, or memory is short.
abbrev pub IsKeyFault : Key → ℕ → Type 0
IsKeyFault k code = ((code ≡ BAD_KEY) × ¬ (IsKeyText k)) ⊎ ((code ≡ OUT_OF_MEMORY) × IsKeyText k)

-- the texts are those of the key
pub record Spells (texts : KeyTexts) (k : Key) : Type 0 where
  pub table : take texts.table_len texts.table ≡ k.table
  pub id : take texts.id_len texts.id ≡ k.id
  pub table_len : texts.table_len ≡ length k.table
  pub id_len : texts.id_len ≡ length k.id

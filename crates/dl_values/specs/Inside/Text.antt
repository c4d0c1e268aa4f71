-- The bytes of a text, wherever they are.
use Rattle.std.specs.Prelude.{ℕ, List, string_bytes}
use Rattle.dl_values.specs.declared.text.Bytes.{Bytes}
use Rattle.dl_values.specs.declared.text.Bytes.TheVariants as bytes

abbrev pub held : Bytes → List ℕ
held (bytes.Inline t) = t.bytes
held (bytes.Block t) = string_bytes t

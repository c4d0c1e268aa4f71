-- The bytes of a joined text, wherever it stands.
use Rattle.std.specs.Prelude.{◌≡◌, ℕ, List, Bool, false, true, length, nat_lt, string_bytes}
use Rattle.dl_values.specs.KeyTexts.{short_bytes}
use Rattle.dl_values.specs.declared.joined_text.JoinedText.{JoinedText}
use Rattle.dl_values.specs.declared.joined_text.JoinedText.TheVariants as text

abbrev pub bytes_of : JoinedText → List ℕ
bytes_of (text.Short t) = t
bytes_of (text.Long t) = string_bytes t

-- whether it has an owner of its own
abbrev pub is_long : JoinedText → Bool
is_long (text.Short t) = false
is_long (text.Long t) = true

-- it has one exactly if it isn't short
abbrev pub IsInForm : JoinedText → Type 0
IsInForm t = is_long t ≡ nat_lt short_bytes (length (bytes_of t))

-- What a hash reads of a text.
use Rattle.std.specs.Prelude.{ℕ, ◌+◌, ◌-◌, ◌*◌, ◌/◌, List, ◌∷◌, ◌++◌, length, replicate, nat_lt, if◌then◌else◌}
use Rattle.dl_values.specs.KeyTexts.{short_bytes}

-- the text, behind it a byte that no text has, and zeros, so many bytes together
abbrev pub filled : ℕ → List ℕ → List ℕ
filled size text = text ++ (255 ∷ replicate (size - 1 - length text) 0)

-- where the word of eight bytes ends that has the byte behind so many
abbrev pub word_end : ℕ → ℕ
word_end len = 8 * (len / 8) + 8

-- what a hash reads of a text, at once: of a short one whole words, which cost less than single bytes
abbrev pub hashed : List ℕ → List ℕ
hashed text = if nat_lt short_bytes (length text) then text else filled (word_end (length text)) text

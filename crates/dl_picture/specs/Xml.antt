-- Texts of strangers as XML 1.0.
use Rattle.std.specs.Prelude.{ℕ, List, Bool, ◌||◌, codes, encode_utf8, flat_map, if◌then◌else◌, nat_eq, nat_lt}
use Rattle.std.specs.Str.{chars}

-- a character of a text that XML 1.0 forbids: a control character other than tab, line feed and carriage return, or
-- U+FFFE or U+FFFF
abbrev pub is_forbidden : ℕ → Bool
is_forbidden c = nat_lt c 32 || nat_eq c 65534 || nat_eq c 65535

-- A character in XML: a reference if it marks XML up, or is white space that XML would change; U+FFFD if XML forbids
-- it; else itself.
abbrev pub written : ℕ → List ℕ
written c =
    if nat_eq c 38 then codes "&amp;"
    else if nat_eq c 60 then codes "&lt;"
    else if nat_eq c 62 then codes "&gt;"
    else if nat_eq c 34 then codes "&quot;"
    else if nat_eq c 39 then codes "&#39;"
    else if nat_eq c 9 then codes "&#9;"
    else if nat_eq c 10 then codes "&#10;"
    else if nat_eq c 13 then codes "&#13;"
    else if is_forbidden c then encode_utf8 65533
    else encode_utf8 c

-- a text in XML, character by character
abbrev pub escaped : List ℕ → List ℕ
escaped text = flat_map written (chars text)

-- Whether a body may be JSON, by the head of its request.
use Rattle.std.specs.Prelude.{ℕ, List, Bool, true, ◌&&◌, ◌||◌, ◌==◌, bytes_eq, codes, map, slice_get, take, Option, Some, None}
use Rattle.std.specs.Char.{to_ascii_lowercase}
use Rattle.std.specs.List.{list_all}
use Rattle.http_header.specs.FieldValue.{FieldValue}
use Rattle.http_header.specs.HeaderMap.{Entries, get_all}

-- whether a type ends in front of this byte: there is none, or it is a semicolon, a space or a tab
abbrev pub ends_type : Option ℕ → Bool
ends_type None = true
ends_type (Some byte) = byte == 59 || (byte == 32 || byte == 9)

-- whether a media type is that of JSON, in any case, with any parameters
abbrev pub is_json : List ℕ → Bool
is_json value = bytes_eq (map to_ascii_lowercase (take 16 value)) (codes "application/json") && ends_type (slice_get value 16)

-- whether each `content-type` that is there says that the body is JSON
abbrev pub may_be_json : Entries FieldValue → Bool
may_be_json headers = list_all (λ value. is_json value.bytes) (get_all headers (codes "content-type"))

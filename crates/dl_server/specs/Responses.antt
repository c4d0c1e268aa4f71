-- The header fields of responses.
use Rattle.std.specs.Prelude.{ℕ, List, [], ◌∷◌, codes}
use Rattle.http1.specs.Fields.{Header}
use Rattle.dl_server.specs.declared.places.Place.{Place}
use Rattle.dl_server.specs.declared.places.Place.TheVariants.{Top, Picture, Health}

-- the one field of a response with a body of this type
abbrev pub typed : List ℕ → List Header
typed kind = (codes "content-type", kind) ∷ []

abbrev pub json_type : List ℕ
json_type = codes "application/json"

abbrev pub line_type : List ℕ
line_type = codes "text/plain; charset=utf-8"

abbrev pub page_type : List ℕ
page_type = codes "text/html; charset=utf-8"

abbrev pub picture_type : List ℕ
picture_type = codes "image/svg+xml"

-- the methods of a place
abbrev pub allowed : Place → List ℕ
allowed Top = codes "GET, HEAD, POST"
allowed Picture = codes "POST"
allowed Health = codes "GET, HEAD"

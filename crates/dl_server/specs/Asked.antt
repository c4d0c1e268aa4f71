-- What a request asks for, by its method and its path.
use Rattle.std.specs.Prelude.{ℕ, List, Bool, ◌||◌, codes, bytes_eq, Option, Some, None, if◌then◌else◌}
use Rattle.dl_server.specs.declared.places.Place.{Place}
use Rattle.dl_server.specs.declared.places.Place.TheVariants as place
use Rattle.dl_server.specs.declared.places.Asked.{Asked}
use Rattle.dl_server.specs.declared.places.Asked.TheVariants as asked

-- whether the method reads a place, and gives it nothing
abbrev pub is_reading : List ℕ → Bool
is_reading method = bytes_eq method (codes "GET") || bytes_eq method (codes "HEAD")

-- the place at a path
abbrev pub place_of : List ℕ → Option Place
place_of path = if bytes_eq path (codes "/") then Some place.Top else (
    if bytes_eq path (codes "/picture") then Some place.Picture else (
    if bytes_eq path (codes "/health") then Some place.Health else None))

-- what a POST asks for, at a place that takes plan files
abbrev pub posted : Asked → Place → List ℕ → Asked
posted wanted at method = if bytes_eq method (codes "POST") then wanted else asked.NoMethod at

-- what a request with this method asks of a place
abbrev pub asked_at : Place → List ℕ → Asked
asked_at place.Top method = if is_reading method then asked.Page else posted asked.Answers place.Top method
asked_at place.Picture method = posted asked.Picture place.Picture method
asked_at place.Health method = if is_reading method then asked.Health else asked.NoMethod place.Health

-- the same, if there is a place
abbrev pub asked_of : Option Place → List ℕ → Asked
asked_of None method = asked.NoPlace
asked_of (Some at) method = asked_at at method

-- what a request with this method and this path asks for
abbrev pub asked_for : List ℕ → List ℕ → Asked
asked_for method path = asked_of (place_of path) method

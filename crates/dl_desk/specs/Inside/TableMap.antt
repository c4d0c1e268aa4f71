-- What is told of the newest batches of tables.
use Rattle.std.specs.Prelude.{◌≡◌, ℕ, List, [], Option, Some, get_or, bytes_eq, if◌then◌else◌}
use Rattle.std.specs.Map.{lookup}
use Rattle.dl_desk.specs.Inside.TableName.{place_of}
use Rattle.dl_desk.specs.declared.table_book.Newest.{Newest}

-- it is told of the table, and of the others what was
abbrev pub Tells : List (List ℕ × Newest) → List ℕ → Newest → List (List ℕ × Newest) → Type 0
Tells old table e new = (q : List ℕ) → lookup (bytes_eq q) new ≡ (if bytes_eq table q then Some e else lookup (bytes_eq q) old)

-- what is told of a table in its place
abbrev pub told_in : List (List (List ℕ × Newest)) → List ℕ → Option Newest
told_in places table = lookup (bytes_eq table) (get_or places (place_of table) [])

-- What a key is: a table and an id, two texts.
use Rattle.std.specs.Prelude.{ℕ, ◌≤◌, List, length, Bool, ◌&&◌, bytes_eq}

-- a key, as contracts see it: the bytes of its two texts
pub record Key : Type 0 where
  pub table : List ℕ
  pub id : List ℕ

-- the most bytes of a table's name
abbrev pub table_bytes : ℕ
table_bytes = 64

-- the most bytes of an id
abbrev pub id_bytes : ℕ
id_bytes = 256

-- both texts have a length that a key allows
pub record IsKey (k : Key) : Type 0 where
  pub some_table : 1 ≤ length k.table
  pub short_table : length k.table ≤ table_bytes
  pub some_id : 1 ≤ length k.id
  pub short_id : length k.id ≤ id_bytes

-- two keys are equal if their tables are, and their ids are
abbrev pub key_eq : Key → Key → Bool
key_eq a b = bytes_eq a.table b.table && bytes_eq a.id b.id

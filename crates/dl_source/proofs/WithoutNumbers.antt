-- Tables without their numbers, under a test and at an index.
use Rattle.std.proofs.Common.{◌≡◌, ℕ, List, [], ◌∷◌, Bool, ◌||◌, ◌<◌, map, length, get_or, ap, sym, ◌∙◌, refl}
use Rattle.std.specs.List.{list_any}
use Rattle.std.proofs.lemmas.List.{length-map, get_or-map}
use Rattle.dl_source.specs.NumberedTables.{NumberedTable, table_of, tables_of}

-- a test of what a function gives
pub any-map : {A B : Type 0} (f : A → B) (p : B → Bool) (xs : List A) → list_any p (map f xs) ≡ list_any (λ x. p (f x)) xs
any-map f p [] = refl
any-map f p (x ∷ xs) = ap (λ b. p (f x) || b) (any-map f p xs)

module _ (ts : List NumberedTable) (i : ℕ) (t : NumberedTable) (lt : i < length ts) (is : t ≡ get_or ts i t) where
  pub within : i < length (tables_of ts)
  within = rw length-map lt

  pub is_at : table_of t ≡ get_or (tables_of ts) i (table_of t)
  is_at = sym (get_or-map table_of ts i t (table_of t) lt ∙ ap table_of (sym is))

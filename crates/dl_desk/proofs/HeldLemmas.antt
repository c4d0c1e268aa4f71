-- What one more atom does to the cell that is held for a key.
use Rattle.std.proofs.Common.{◌≡◌, ℕ, Bool, true, false, cond, List, [], ◌∷◌, Option, Some, None, refl}
use Rattle.dl_values.specs.Key.{Key, key_eq}
use Rattle.dl_desk.specs.History.{Atom, Begun, begins, Latest, later, latest, forgets, cell_kept, held}

-- an atom that doesn't forget the key leaves the cell
kept_later : (k : Key) (a : Atom) (l : Option Latest) → ((batch : Option ℕ) → forgets k batch a ≡ false) → cell_kept k (later a l) ≡ cell_kept k l
kept_later k a None keeps = refl
kept_later k a (Some l) keeps = rw (keeps l.batch) refl

-- an atom that begins nothing and forgets nothing of the key leaves what is held
pub held-same : (a : Atom) (before : List Atom) (k : Key) → begins a ≡ None → ((batch : Option ℕ) → forgets k batch a ≡ false)
    → held (a ∷ before) k ≡ held before k
held-same a before k is keeps = rw is (kept_later k a (latest before k) keeps)

begun_step : (k : Key) (g : Begun) (rest : Option Latest) (t : Bool) (o : Option ℕ) → cell_kept k rest ≡ o
    → cell_kept k (cond t (Some (record { cell = g.cell; batch = g.batch; after = [] })) rest) ≡ cond t (Some g.cell) o
begun_step k g rest true o e = refl
begun_step k g rest false o e = e

-- an atom that begins a cell makes it the one that is held for its key, and leaves the others
pub held-begun : (a : Atom) (before : List Atom) (k : Key) (g : Begun) → begins a ≡ Some g → ((batch : Option ℕ) → forgets k batch a ≡ false)
    → held (a ∷ before) k ≡ cond (key_eq g.key k) (Some g.cell) (held before k)
held-begun a before k g is keeps = rw is (begun_step k g (later a (latest before k)) (key_eq g.key k) (held before k) (kept_later k a (latest before k) keeps))

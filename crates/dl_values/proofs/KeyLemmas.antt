-- Two keys that are one by `key_eq` are the same key.
use Rattle.std.proofs.Common.{◌≡◌, ◌∙◌, ap, ℕ, true, List, refl}
use Rattle.std.specs.Str.{bytes_eq}
use Rattle.std.proofs.lemmas.Bool.{and_parts, and_from}
use Rattle.std.proofs.lemmas.Cmp.{nat_list_eq_equiv}
use Rattle.std.proofs.lemmas.Slice.Eq.{bytes_eq-Decides}
use Rattle.dl_values.specs.Key.{Key, key_eq}

pub key_eq-refl : (k : Key) → key_eq k k ≡ true
key_eq-refl k = and_from (bytes_eq k.table k.table) (bytes_eq k.id k.id) (nat_list_eq_equiv.refl k.table) (nat_list_eq_equiv.refl k.id)

pub key_eq-sym : (j k : Key) → key_eq j k ≡ key_eq k j
key_eq-sym j k = rw (nat_list_eq_equiv.symm j.table k.table, nat_list_eq_equiv.symm j.id k.id) refl

key_of : List ℕ → List ℕ → Key
key_of table id = record { table = table; id = id }

pub key_eq-same : (j k : Key) → key_eq j k ≡ true → j ≡ k
unfolding key_of
key_eq-same j k e =
    let p = and_parts (bytes_eq j.table k.table) (bytes_eq j.id k.id) e in
    let t : j.table ≡ k.table = (bytes_eq-Decides j.table k.table).0 p.0 in
    let i : j.id ≡ k.id = (bytes_eq-Decides j.id k.id).0 p.1 in
    ap (λ (x : List ℕ). key_of x j.id) t ∙ ap (λ (x : List ℕ). key_of k.table x) i

-- There are as many replies to the loads of keys as keys.
use Rattle.std.proofs.Common.{◌≡◌, ℕ, suc, List, [], ◌∷◌, length, refl, ap}
use Rattle.dl_values.specs.Key.{Key}
use Rattle.dl_values.specs.Limits.{Rules}
use Rattle.dl_desk.specs.History.{Atom, Load, load_reply, load_replies}

pub length-load_replies : (rules : Rules) (history : List Atom) (ks : List Key) → length (load_replies rules history ks) ≡ length ks
length-load_replies rules history [] = refl
length-load_replies rules history (k ∷ ks) = ap (λ (n : ℕ). suc n) (length-load_replies rules (Load k (load_reply rules history k) ∷ history) ks)

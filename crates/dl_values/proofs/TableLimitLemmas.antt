-- Limits of tables, one by one.
use Rattle.std.proofs.Common.{◌≡◌, ◌∙◌, sym, ℕ, zero, suc, ◌<◌, List, [], ◌∷◌, length, get_or, Bool, true, false, not, ◌&&◌, cond}
use Rattle.std.proofs.Common.{Option, Some, None, nat_le, bytes_eq, IfSome, refl, arith}
use Rattle.std.specs.List.{All}
use Rattle.std.specs.Map.{lookup}
use Rattle.std.proofs.lemmas.Bool.{and_parts, leb-true}
use Rattle.dl_values.specs.Limits.{IsLimit, largest_limit}
use Rattle.dl_values.specs.TableLimits.{pairs, GiveTheSame, AreTableLimits, has_other_limit}
use Rattle.dl_values.specs.declared.table_limits.TableLimit.{TableLimit}
use Rattle.dl_values.proofs.Repeats.{or_left_false, or_right_false}

pub if_some : (o : Option ℕ) → ((n : ℕ) → o ≡ Some n → IsLimit n) → IfSome o IsLimit
if_some None each = tt
if_some (Some n) each = each n refl

either : (b : Bool) (m n : ℕ) (rest : Option ℕ) → IsLimit m → (rest ≡ Some n → IsLimit n) → cond b (Some m) rest ≡ Some n → IsLimit n
either true m n rest first later e = let two : ◌≡◌ {A = Option ℕ} (Some m) (Some n) = e in let same : m ≡ n = cc in rw (← same) first
either false m n rest first later e = later e

-- what is found among limits is one
found_limit : (test : List ℕ → Bool) (ts : List (List ℕ × ℕ)) (n : ℕ) → All (λ t. IsLimit t.1) ts → lookup test ts ≡ Some n → IsLimit n
found_limit test [] n are is = absurd (let bad : ◌≡◌ {A = Option ℕ} None (Some n) = is in cc)
found_limit test (t ∷ ts) n are is = either (test t.0) t.1 n (lookup test ts) (are 0 t (omega arith)) (found_limit test ts n (λ k d low. are (suc k) d (omega arith))) is

passed : (b : Bool) → not b ≡ false → b ≡ true
passed true e = refl
passed false e = sym e

is_limit : (n : ℕ) → not (nat_le 1 n && nat_le n largest_limit) ≡ false → IsLimit n
is_limit n e =
    let p = and_parts (nat_le 1 n) (nat_le n largest_limit) (passed (nat_le 1 n && nat_le n largest_limit) e) in
    record { least = leb-true 1 n p.0; most = leb-true n largest_limit p.1 }

-- where no number is refused, all are limits
limits_are : (ts : List TableLimit) → has_other_limit ts ≡ false → All (λ t. IsLimit t.1) (pairs ts)
limits_are [] none k d low = absurd (omega arith)
limits_are (t ∷ ts) none zero d low = is_limit t.limit (or_left_false (not (nat_le 1 t.limit && nat_le t.limit largest_limit)) (has_other_limit ts) none)
limits_are (t ∷ ts) none (suc k) d low =
    limits_are ts (or_right_false (not (nat_le 1 t.limit && nat_le t.limit largest_limit)) (has_other_limit ts) none) k d (omega arith)

-- and so are those of a list that gives the same
pub limits_given : (us : List (List ℕ × ℕ)) (ts : List TableLimit) → GiveTheSame us (pairs ts) → has_other_limit ts ≡ false → AreTableLimits us
limits_given us ts same none = λ table n is. found_limit (bytes_eq table) (pairs ts) n (limits_are ts none) (sym (same table) ∙ is)

pub pair_at : (ts : List TableLimit) (i : ℕ) (t : TableLimit) → i < length ts → t ≡ get_or ts i t
    → ◌≡◌ {A = List ℕ × ℕ} (t.table, t.limit) (get_or (pairs ts) i (t.table, t.limit))
pair_at [] i t low is = absurd (omega arith)
pair_at (x ∷ ts) zero t low is = rw is refl
pair_at (x ∷ ts) (suc i) t low is = pair_at ts i t (omega arith) is

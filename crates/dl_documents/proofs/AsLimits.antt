-- Numbers of tables beside the limits that they are turned into.
use Rattle.std.proofs.Common.{◌≡◌, ◌∙◌, ◌⊎◌, inl, inr, refl, sym, ap, arith, ℕ, suc, ◌≤◌, pos, List, [], ◌∷◌, ◌++◌, length, Bool, true, false, not, ◌||◌, ◌&&◌}
use Rattle.std.proofs.Common.{bytes_eq, nat_eq, nat_lt, nat_le, Option, Some, None, if◌then◌else◌, true≢false}
use Rattle.std.proofs.lemmas.Bool.{ne_eqb, le-ltb, leb-true, leb-false, not-true, not-false, and_parts, and_cases, or_from, or_cases, or_parts}
use Rattle.std.proofs.lemmas.Option.{none-some}
use Rattle.std.specs.List.{AllByRecursion}
use Rattle.dl_values.specs.Key.{table_bytes}
use Rattle.dl_values.specs.Limits.{IsLimit, IsNoLimit, largest_limit}
use Rattle.dl_values.specs.TableLimits.{GiveTheSame, pairs, lists, repeats, has_empty_table, has_long_table, has_other_limit, fault_of}
use Rattle.dl_values.specs.declared.fault.TableLimitFault.{TableLimitFault}
use Rattle.dl_values.specs.declared.fault.LimitFault.TheVariants as limit
use Rattle.dl_values.specs.declared.fault.TableLimitFault.TheVariants.{EmptyTable, TableTooLong, BatchLimit, DuplicateTable, OutOfMemory}
use Rattle.dl_values.specs.declared.table_limits.TableLimit.{TableLimit}
use Rattle.dl_source.specs.declared.table_number.TableNumber.{TableNumber}
use Rattle.dl_documents.specs.Faults.{HasOutside}
use Rattle.dl_documents.specs.declared.fault.PlanFault.TheVariants as plan
use Rattle.dl_documents.specs.Inside.OwnLimits.{IsAsLimit, AreAsLimits, AreInside, refusal}
use Rattle.dl_documents.specs.OwnLimits.{TableLimits, as_numbers, AreTheirLimits}
use Rattle.dl_documents.specs.TableNumbers.{numbered, named, AreNamed}
use Rattle.dl_documents.specs.Terms.{IsTableName}

-- one more
pub as_limits_more : (ns : List TableNumber) (ls : List TableLimit) (n : TableNumber) (l : TableLimit) → AreAsLimits ns ls → IsAsLimit n l
    → AreAsLimits (ns ++ n ∷ []) (ls ++ l ∷ [])
as_limits_more [] [] n l are is = (is, tt)
as_limits_more [] (k ∷ ls) n l are is = absurd are
as_limits_more (m ∷ ns) [] n l are is = absurd are
as_limits_more (m ∷ ns) (k ∷ ls) n l are is = (are.0, as_limits_more ns ls n l are.1 is)

-- ---- names

not_empty : (name : List ℕ) → 1 ≤ length name → nat_eq (length name) 0 ≡ false
not_empty name some = ne_eqb (length name) 0 (λ e. omega arith)

no_empty : (ns : List TableNumber) (ls : List TableLimit) → AreAsLimits ns ls → AllByRecursion (λ n. IsTableName n.table) ns → has_empty_table ls ≡ false
no_empty [] [] are names = refl
no_empty [] (l ∷ ls) are names = absurd are
no_empty (n ∷ ns) [] are names = absurd are
no_empty (n ∷ ns) (l ∷ ls) are names =
    or_from (nat_eq (length l.table) 0) (has_empty_table ls)
    (ap (λ (t : List ℕ). nat_eq (length t) 0) are.0.table ∙ not_empty n.table names.0.some)
    (no_empty ns ls are.1 names.1)

no_long : (ns : List TableNumber) (ls : List TableLimit) → AreAsLimits ns ls → AllByRecursion (λ n. IsTableName n.table) ns → has_long_table ls ≡ false
no_long [] [] are names = refl
no_long [] (l ∷ ls) are names = absurd are
no_long (n ∷ ns) [] are names = absurd are
no_long (n ∷ ns) (l ∷ ls) are names =
    or_from (nat_lt table_bytes (length l.table)) (has_long_table ls)
    (ap (λ (t : List ℕ). nat_lt table_bytes (length t)) are.0.table ∙ le-ltb table_bytes (length n.table) names.0.short)
    (no_long ns ls are.1 names.1)

same_lists : (name : List ℕ) (ns : List TableNumber) (ls : List TableLimit) → AreAsLimits ns ls → lists name (pairs ls) ≡ lists name (named ns)
same_lists name [] [] are = refl
same_lists name [] (l ∷ ls) are = absurd are
same_lists name (n ∷ ns) [] are = absurd are
same_lists name (n ∷ ns) (l ∷ ls) are =
    ap (λ (t : List ℕ). bytes_eq name t || lists name (pairs ls)) are.0.table ∙ ap (λ b. bytes_eq name n.table || b) (same_lists name ns ls are.1)

same_repeats : (ns : List TableNumber) (ls : List TableLimit) → AreAsLimits ns ls → repeats (pairs ls) ≡ repeats (named ns)
same_repeats [] [] are = refl
same_repeats [] (l ∷ ls) are = absurd are
same_repeats (n ∷ ns) [] are = absurd are
same_repeats (n ∷ ns) (l ∷ ls) are =
    ap (λ (t : List ℕ). lists t (pairs ls) || repeats (pairs ls)) are.0.table
    ∙ (ap (λ b. b || repeats (pairs ls)) (same_lists n.table ns ls are.1) ∙ ap (λ b. lists n.table (named ns) || b) (same_repeats ns ls are.1))

-- ---- numbers

is_no_limit : (n : ℕ) → not (nat_le 1 n && nat_le n largest_limit) ≡ true → IsNoLimit n
is_no_limit n h = elim (and_cases (nat_le 1 n) (nat_le n largest_limit) (not-true (nat_le 1 n && nat_le n largest_limit) h)) [
  | inl low ↦ (let k = leb-false 1 n low in inl (omega arith))
  | inr high ↦ inr (leb-false n largest_limit high)
]

is_limit : (n : ℕ) → not (nat_le 1 n && nat_le n largest_limit) ≡ false → IsLimit n
is_limit n h =
    let p = and_parts (nat_le 1 n) (nat_le n largest_limit) (not-false (nat_le 1 n && nat_le n largest_limit) h) in
    record { least = leb-true 1 n p.0; most = leb-true n largest_limit p.1 }

-- a limit that is refused comes from a number that is none
outside : (ns : List TableNumber) (ls : List TableLimit) → AreAsLimits ns ls → has_other_limit ls ≡ true → HasOutside ns
outside [] [] are h = absurd (true≢false (sym h))
outside [] (l ∷ ls) are h = absurd are
outside (n ∷ ns) [] are h = absurd are
outside (n ∷ ns) (l ∷ ls) are h = elim (or_cases (not (nat_le 1 l.limit && nat_le l.limit largest_limit)) (has_other_limit ls) h) [
  | inl here ↦ (0, n, refl, are.0.outside (is_no_limit l.limit here))
  | inr later ↦ (let p = outside ns ls are.1 later in (suc p.0, p.1, p.2, p.3))
]

-- where none is refused the numbers are the limits
inside : (ns : List TableNumber) (ls : List TableLimit) → AreAsLimits ns ls → has_other_limit ls ≡ false
    → (ns ≡ as_numbers (pairs ls)) × AllByRecursion (λ t. IsLimit t.1) (pairs ls)
inside [] [] are h = (refl, tt)
inside [] (l ∷ ls) are h = absurd are
inside (n ∷ ns) [] are h = absurd are
inside (n ∷ ns) (l ∷ ls) are h =
    let p = or_parts (not (nat_le 1 l.limit && nat_le l.limit largest_limit)) (has_other_limit ls) h in
    let fits : IsLimit l.limit = is_limit l.limit p.0 in
    let rest = inside ns ls are.1 p.1 in
    let same : n ≡ numbered l.table (pos l.limit) =
    ap (λ (t : List ℕ). numbered t n.number) (sym are.0.table) ∙ ap (numbered l.table) (are.0.inside fits) in
    (ap (λ m. m ∷ ns) same ∙ ap (λ ms. numbered l.table (pos l.limit) ∷ ms) rest.0, (fits, rest.1))

-- ---- the fault

-- the tests in their order
abbrev first_of : Bool → Bool → Bool → Bool → Option TableLimitFault
first_of empty long other twice =
    if empty then Some EmptyTable
    else (if long then Some TableTooLong else (if other then Some BatchLimit else (if twice then Some DuplicateTable else None)))

only_other : (empty long other twice : Bool) (f : TableLimitFault) → empty ≡ false → long ≡ false → twice ≡ false
    → first_of empty long other twice ≡ Some f → other ≡ true
only_other true long other twice f a b c h = absurd (true≢false a)
only_other false true other twice f a b c h = absurd (true≢false b)
only_other false false true twice f a b c h = refl
only_other false false false true f a b c h = absurd (true≢false c)
only_other false false false false f a b c h = absurd (none-some f h)

none_other : (empty long other twice : Bool) → first_of empty long other twice ≡ None → other ≡ false
none_other true long other twice h = cc
none_other false true other twice h = cc
none_other false false true twice h = cc
none_other false false false twice h = refl

module _ (ns : List TableNumber) (ls : List TableLimit) (are : AreAsLimits ns ls) (is : AreNamed ns) where
  -- limits of named tables have a fault only where a number is none
  outside_by : (f : TableLimitFault) → fault_of ls ≡ Some f → HasOutside ns
  outside_by f h =
      outside ns ls are (only_other (has_empty_table ls) (has_long_table ls) (has_other_limit ls) (repeats (pairs ls)) f
      (no_empty ns ls are is.names) (no_long ns ls are is.names) (same_repeats ns ls are ∙ is.once) h)

  pub refused : (f : TableLimitFault) → (f ≡ OutOfMemory) ⊎ (fault_of ls ≡ Some f)
      → (refusal f ≡ plan.OutOfMemory) ⊎ ((refusal f ≡ plan.Limit limit.BatchLimit) × HasOutside ns)
  refused f (inl memory) = inl (ap refusal memory)
  refused OutOfMemory (inr h) = inl refl
  refused EmptyTable (inr h) = inr (refl, outside_by EmptyTable h)
  refused TableTooLong (inr h) = inr (refl, outside_by TableTooLong h)
  refused BatchLimit (inr h) = inr (refl, outside_by BatchLimit h)
  refused DuplicateTable (inr h) = inr (refl, outside_by DuplicateTable h)

-- limits without a fault are what the numbers say
pub accepted : (ns : List TableNumber) (ls : List TableLimit) (tables : TableLimits) → AreAsLimits ns ls → fault_of ls ≡ None → GiveTheSame tables (pairs ls)
    → AreTheirLimits ns tables
accepted ns ls tables are h same =
    let p = inside ns ls are (none_other (has_empty_table ls) (has_long_table ls) (has_other_limit ls) (repeats (pairs ls)) h) in
    record { listed = pairs ls; numbers = p.0; limits = p.1; same = same }

-- ---- what the numbers are

all_inside : (ts : TableLimits) → AllByRecursion (λ t. IsLimit t.1) ts → AreInside (as_numbers ts)
all_inside [] all = tt
all_inside (t ∷ ts) all = ((t.1, refl, all.0), all_inside ts all.1)

-- numbers that are limits may be such
pub are_inside : (ns : List TableNumber) (tables : TableLimits) → AreTheirLimits ns tables → AreInside ns
are_inside ns tables are = rw are.numbers (all_inside are.listed are.limits)

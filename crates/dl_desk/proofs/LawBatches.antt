-- Batches are within their limits.
use Rattle.std.proofs.Common.{◌≡◌, ◌≢◌, ◌∙◌, sym, ap, subst, ℕ, zero, suc, ◌<◌, ◌≤◌, ◌⊎◌, inl, inr, Bool, true, false, not, ◌&&◌, cond, List, [], ◌∷◌, ◌++◌}
use Rattle.std.proofs.Common.{length, get_or, Option, Some, None, unwrap_or, nat_lt, nat_le, bytes_eq, refl, arith}
use Rattle.std.specs.Map.{lookup}
use Rattle.std.specs.List.{All, AllPairs}
use Rattle.std.proofs.lemmas.Bool.{and_parts, not-true, eqb-true, ltb-true}
use Rattle.std.proofs.lemmas.Bool.Decides.{nat_tests}
use Rattle.std.proofs.lemmas.List.{length_push}
use Rattle.std.proofs.lemmas.List.Elements.{All-push}
use Rattle.std.proofs.lemmas.List.Folds.{list_any_at}
use Rattle.std.proofs.lemmas.List.Quantifiers.{all_pairs_push}
use Rattle.std.proofs.lemmas.Slice.Eq.{bytes_eq-Decides}
use Rattle.dl_values.specs.Key.{Key, key_eq}
use Rattle.dl_values.specs.Limits.{Limits, AreLimits, Rules, by_table, limit_by, limit_of}
use Rattle.dl_values.specs.TableLimits.{AreTableLimits}
use Rattle.dl_desk.specs.Laws.{HaveLimits, AreOfOneTable, IsBatch, BatchesAreWithinLimits}
use Rattle.dl_desk.specs.History.{Atom, Begun, begins, is_number, add_member, members, begun, is_named, sent, has_member, serves_by, serves, greatest}
use Rattle.dl_desk.specs.History.{is_open, room_in, room, IsAnswered, AllAnswered}
use Rattle.dl_values.proofs.KeyLemmas.{key_eq-refl}
use Rattle.dl_desk.proofs.Facts.{fresh_cell, named, members-unnamed}

-- ---- the members of one table

-- where tables have limits, the members are of the key's table
abbrev OfTable : Option (List (List ℕ × ℕ)) → Key → List (Key × ℕ) → Type 0
OfTable None k ms = Unit {0}
OfTable (Some tables) k ms = All (λ m. m.0.table ≡ k.table) ms

first_is : (k : Key) (m : Key × ℕ) (ms : List (Key × ℕ)) → bytes_eq k.table m.0.table ≡ true → AllPairs (λ m n. m.0.table ≡ n.0.table) (m ∷ ms)
    → All (λ m. m.0.table ≡ k.table) (m ∷ ms)
first_is k m ms same pairs zero d low = sym ((bytes_eq-Decides k.table m.0.table).0 same)
first_is k m ms same pairs (suc i) d low =
    let first : m.0.table ≡ (get_or (m ∷ ms) (suc i) d).0.table = pairs 0 (suc i) d (omega arith) low in
    sym first ∙ sym ((bytes_eq-Decides k.table m.0.table).0 same)

-- a batch that serves the key has members of its table
of_table : (o : Option (List (List ℕ × ℕ))) (k : Key) (ms : List (Key × ℕ)) → serves_by o k ms ≡ true → AreOfOneTable o ms → OfTable o k ms
of_table None k ms serve one = tt
of_table (Some tables) k [] serve one = λ i d low. absurd (omega arith)
of_table (Some tables) k (m ∷ ms) serve one = first_is k m ms serve one

-- so they have its limit
same_limit : (most : ℕ) (o : Option (List (List ℕ × ℕ))) (k : Key) (ms : List (Key × ℕ)) → OfTable o k ms
    → All (λ m. limit_by most o m.0.table ≡ limit_by most o k.table) ms
same_limit most None k ms of = λ i d low. refl
same_limit most (Some tables) k ms of = λ i d low. ap (limit_by most (Some tables)) (of i d low)

one_table : (o : Option (List (List ℕ × ℕ))) (k : Key) (c : ℕ) (ms : List (Key × ℕ)) → OfTable o k ms → AreOfOneTable o ms → AreOfOneTable o (ms ++ (k, c) ∷ [])
one_table None k c ms of one = tt
one_table (Some tables) k c ms of one = all_pairs_push (λ m n. m.0.table ≡ n.0.table) ms (k, c) one of

-- ---- one more member

has_none : (ms : List (Key × ℕ)) (k : Key) → has_member ms k ≡ false → All (λ m. m.0 ≢ k) ms
has_none ms k none i d low e =
    let same : key_eq k (get_or ms i d).0 ≡ true = ap (key_eq k) e ∙ key_eq-refl k in
    let found : has_member ms k ≡ true = list_any_at (λ m. key_eq k m.0) ms i d low same in
    let bad : true ≡ false = sym found ∙ none in
    cc

-- one more member, where a batch is open for its key
pub batch_more : (rules : Rules) (k : Key) (c : ℕ) (ms : List (Key × ℕ)) → IsBatch rules ms → serves rules k ms ≡ true → length ms < limit_of rules k.table
    → has_member ms k ≡ false → IsBatch rules (ms ++ (k, c) ∷ [])
batch_more rules k c ms batch serve low none =
    let of = of_table rules.tables k ms serve batch.tables in
    let more : length (ms ++ (k, c) ∷ []) ≤ limit_of rules k.table = omega (arith, length_push ms (k, c)) in
    record {
      distinct = all_pairs_push (λ m n. m.0 ≢ n.0) ms (k, c) batch.distinct (has_none ms k none);
      within = All-push (λ m. length (ms ++ (k, c) ∷ []) ≤ limit_of rules m.0.table) ms (k, c)
          (λ i d in_list. rw (same_limit rules.limits.max_batch rules.tables k ms of i d in_list) more) more;
      tables = one_table rules.tables k c ms of batch.tables;
    }

-- the first member of a batch
pub batch_first : (rules : Rules) (k : Key) (c : ℕ) → HaveLimits rules → IsBatch rules ((k, c) ∷ [])
batch_first rules k c limits = record {
  distinct = λ i j d low high. absurd (omega arith);
  within = within;
  tables = one_table rules.tables k c [] (none rules.tables) (empty rules.tables);
}
  where
    within : All (λ (m : Key × ℕ). 1 ≤ limit_of rules m.0.table) ((k, c) ∷ [])
    within zero d low = limits.least k.table
    within (suc i) d low = absurd (omega arith)

    none : (o : Option (List (List ℕ × ℕ))) → OfTable o k []
    none None = tt
    none (Some tables) = λ i d low. absurd (omega arith)

    empty : (o : Option (List (List ℕ × ℕ))) → AreOfOneTable o []
    empty None = tt
    empty (Some tables) = λ i j d low high. absurd (omega arith)

-- ---- the batch that a fresh load goes into

passes_step : (test : ℕ → Bool) (n b : ℕ) (t : Bool) → test n ≡ t → (greatest test n ≡ Some b → test b ≡ true) → cond t (Some n) (greatest test n) ≡ Some b
    → test b ≡ true
passes_step test n b true is below e = let same : ◌≡◌ {A = Option ℕ} (Some n) (Some b) = e in let eq : n ≡ b = cc in ap test (sym eq) ∙ is
passes_step test n b false is below e = below e

pub greatest-passes : (test : ℕ → Bool) (n b : ℕ) → greatest test n ≡ Some b → test b ≡ true
greatest-passes test zero b is = absurd (let bad : ◌≡◌ {A = Option ℕ} None (Some b) = is in cc)
greatest-passes test (suc n) b is = passes_step test n b (test n) refl (greatest-passes test n b) is

-- a batch that is open for the key
record IsRoom (rules : Rules) (history : List Atom) (k : Key) (b : ℕ) : Type 0 where
  serve : serves rules k (members history b) ≡ true
  short : length (members history b) < limit_of rules k.table
  none : has_member (members history b) k ≡ false

is_room : (rules : Rules) (history : List Atom) (k : Key) (b : ℕ) → serves rules k (members history b) ≡ true → is_open rules history k b ≡ true
    → IsRoom rules history k b
is_room rules history k b serve opened =
    let ms = members history b in
    let outer = and_parts (nat_le (sent history) b && nat_lt (length ms) (limit_of rules k.table)) (not (has_member ms k)) opened in
    let inner = and_parts (nat_le (sent history) b) (nat_lt (length ms) (limit_of rules k.table)) outer.0 in
    record { serve = serve; short = ltb-true (length ms) (limit_of rules k.table) inner.1; none = not-true (has_member ms k) outer.1 }

room_in_cases : (rules : Rules) (history : List Atom) (k : Key) (o : Option ℕ) → ((b : ℕ) → o ≡ Some b → serves rules k (members history b) ≡ true)
    → (room_in rules history k o ≡ begun history) ⊎ IsRoom rules history k (room_in rules history k o)
room_in_cases rules history k None serve = inl refl
room_in_cases rules history k (Some b) serve = by (is_open rules history k b) refl
  where
    by : (t : Bool) → is_open rules history k b ≡ t → (cond t b (begun history) ≡ begun history) ⊎ IsRoom rules history k (cond t b (begun history))
    by true opened = inr (is_room rules history k b (serve b refl) opened)
    by false opened = inl refl

room_cases : (rules : Rules) (history : List Atom) (k : Key) → (room rules history k ≡ begun history) ⊎ IsRoom rules history k (room rules history k)
room_cases rules history k =
    let test : ℕ → Bool = λ b. serves rules k (members history b) in
    room_in_cases rules history k (greatest test (begun history)) (λ b is. greatest-passes test (begun history) b is)

-- ---- every batch

not_below : (b n : ℕ) → b ≡ n → nat_lt b n ≡ false
not_below b n e = grind (arith, nat_tests)

put_step : (rules : Rules) (history : List Atom) (k : Key) (c b : ℕ) → HaveLimits rules → AllAnswered rules history → IsBatch rules (members history b)
    → (b ≡ begun history) ⊎ IsRoom rules history k b → IsBatch rules (members history b ++ (k, c) ∷ [])
put_step rules history k c b limits legal batch (inl new) =
    let unnamed : is_named history b ≡ false = named rules history legal b ∙ not_below b (begun history) new in
    rw (members-unnamed history b unnamed) (batch_first rules k c limits)
put_step rules history k c b limits legal batch (inr opened) = batch_more rules k c (members history b) batch opened.serve opened.short opened.none

named_as : (b : ℕ) (o : Option ℕ) → is_number b o ≡ true → o ≡ Some b
named_as b None e = absurd (let bad : false ≡ true = e in cc)
named_as b (Some n) e = let same = eqb-true b n e in ap Some (sym same)

atom_step : (rules : Rules) (history : List Atom) (a : Atom) (b : ℕ) (o : Option Begun) → HaveLimits rules → AllAnswered rules history
    → IsAnswered rules history a → begins a ≡ o → IsBatch rules (members history b) → IsBatch rules (add_member b o (members history b))
atom_step rules history a b None limits legal answered is batch = batch
atom_step rules history a b (Some g) limits legal answered is batch = by (is_number b g.batch) refl
  where
    by : (t : Bool) → is_number b g.batch ≡ t → IsBatch rules (cond t (members history b ++ (g.key, g.cell) ∷ []) (members history b))
    by false other = batch
    by true own =
        let e : b ≡ room rules history g.key = (fresh_cell rules history a g answered is).batch_is b (named_as b g.batch own) in
        let P : ℕ → Type 0 = λ n. (n ≡ begun history) ⊎ IsRoom rules history g.key n in
        put_step rules history g.key g.cell b limits legal batch (subst P (sym e) (room_cases rules history g.key))

pub batches_are_within_limits : BatchesAreWithinLimits
batches_are_within_limits rules limits [] legal b = record {
  distinct = λ i j d low high. absurd (omega arith);
  within = λ i d low. absurd (omega arith);
  tables = empty rules.tables;
}
  where
    empty : (o : Option (List (List ℕ × ℕ))) → AreOfOneTable o []
    empty None = tt
    empty (Some tables) = λ i j d low high. absurd (omega arith)
batches_are_within_limits rules limits (a ∷ history) legal b = atom_step rules history a b (begins a) limits legal.1 legal.0 refl
    (batches_are_within_limits rules limits history legal.1 b)

-- limits are at least 1, the tables' own too
pub have_limits : (limits : Limits) (tables : List (List ℕ × ℕ)) → AreLimits limits → AreTableLimits tables → HaveLimits (by_table limits tables)
have_limits limits tables are own = record { least = λ table. each table (lookup (bytes_eq table) tables) refl }
  where
    each : (table : List ℕ) (o : Option ℕ) → lookup (bytes_eq table) tables ≡ o → 1 ≤ unwrap_or o limits.max_batch
    each table None is = are.batch.least
    each table (Some n) is = (own table n is).least

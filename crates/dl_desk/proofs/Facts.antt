-- What holds of every history that is answered as its atoms say.
use Rattle.std.proofs.Common.{◌≡◌, ◌∙◌, sym, subst, ℕ, zero, suc, ◌+◌, ◌<◌, ◌≤◌, Bool, true, false, ◌||◌, cond, List, [], ◌∷◌, Option, Some, None, nat_eq}
use Rattle.std.proofs.Common.{nat_lt, refl, arith}
use Rattle.std.proofs.lemmas.Bool.{or_parts, ltb-true, ltb-false, eqb-true}
use Rattle.std.proofs.lemmas.Bool.Decides.{nat_tests}
use Rattle.dl_values.specs.Key.{Key}
use Rattle.dl_values.specs.Limits.{Rules}
use Rattle.dl_desk.specs.History.{Atom, Load, Prime, Dispatch, Settle, Fail, Begun, begins, cells, is_number, batch_of, is_named}
use Rattle.dl_desk.specs.History.{count_batch, begun, add_member, members, held, sent, room, room_in, is_open, greatest, serves, load_reply_at}
use Rattle.dl_desk.specs.History.{prime_reply_at, end_of, IsAnswered, AllAnswered}
use Rattle.dl_desk.specs.declared.reply.LoadReply.TheVariants.{Hit, Fresh}
use Rattle.dl_desk.specs.declared.reply.DeskPrime.TheVariants.{Primed, Kept}
use Rattle.dl_desk.specs.declared.reply.End.{End}
use Rattle.dl_desk.specs.declared.reply.End.TheVariants.{Settled, Failed}

-- the cell that an answered atom begins is the next one, of a key that wasn't held
pub record IsFresh (rules : Rules) (before : List Atom) (g : Begun) : Type 0 where
  pub cell_is : g.cell ≡ cells before
  pub not_held : held before g.key ≡ None
  pub batch_is : (b : ℕ) → g.batch ≡ Some b → b ≡ room rules before g.key

abbrev begun_at : Key → ℕ → Option ℕ → Begun
begun_at k c b = record { key = k; cell = c; batch = b }

fresh_load : (rules : Rules) (before : List Atom) (k : Key) (c b : ℕ) (o : Option ℕ) → held before k ≡ o → Fresh c b ≡ load_reply_at rules before k o
    → IsFresh rules before (begun_at k c (Some b))
fresh_load rules before k c b (Some x) h r = absurd (let bad : Fresh c b ≡ Hit x = r in cc)
fresh_load rules before k c b None h r = record {
  cell_is = let e : Fresh c b ≡ Fresh (cells before) (room rules before k) = r in cc;
  not_held = h;
  batch_is = λ n s. let e : Fresh c b ≡ Fresh (cells before) (room rules before k) = r in let f : ◌≡◌ {A = Option ℕ} (Some b) (Some n) = s in cc;
}

fresh_prime : (rules : Rules) (before : List Atom) (k : Key) (c : ℕ) (o : Option ℕ) → held before k ≡ o → Primed c ≡ prime_reply_at before o
    → IsFresh rules before (begun_at k c None)
fresh_prime rules before k c (Some x) h r = absurd (let bad : Primed c ≡ Kept = r in cc)
fresh_prime rules before k c None h r = record {
  cell_is = let e : Primed c ≡ Primed (cells before) = r in cc;
  not_held = h;
  batch_is = λ n s. absurd (let f : ◌≡◌ {A = Option ℕ} None (Some n) = s in cc);
}

pub fresh_cell : (rules : Rules) (before : List Atom) (a : Atom) (g : Begun) → IsAnswered rules before a → begins a ≡ Some g → IsFresh rules before g
fresh_cell rules before (Load k (Fresh c b)) g answered is =
    let same : begun_at k c (Some b) ≡ g = cc in
    subst (IsFresh rules before) same (fresh_load rules before k c b (held before k) refl answered)
fresh_cell rules before (Prime k (Primed c)) g answered is =
    let same : begun_at k c None ≡ g = cc in
    subst (IsFresh rules before) same (fresh_prime rules before k c (held before k) refl answered)
fresh_cell rules before a g answered is = absurd (let bad : ◌≡◌ {A = Option Begun} None (Some g) = is in cc)

-- ---- the batch of a fresh load

greatest_step : (test : ℕ → Bool) (n b : ℕ) (t : Bool) → (greatest test n ≡ Some b → b < n) → cond t (Some n) (greatest test n) ≡ Some b → b < suc n
greatest_step test n b true below e = let same : ◌≡◌ {A = Option ℕ} (Some n) (Some b) = e in let eq : n ≡ b = cc in omega arith
greatest_step test n b false below e = let low : b < n = below e in omega arith

pub greatest-below : (test : ℕ → Bool) (n b : ℕ) → greatest test n ≡ Some b → b < n
greatest-below test zero b is = absurd (let bad : ◌≡◌ {A = Option ℕ} None (Some b) = is in cc)
greatest-below test (suc n) b is = greatest_step test n b (test n) (greatest-below test n b) is

room_in-le : (rules : Rules) (history : List Atom) (k : Key) (o : Option ℕ) → ((b : ℕ) → o ≡ Some b → b < begun history)
    → room_in rules history k o ≤ begun history
room_in-le rules history k None below = omega arith
room_in-le rules history k (Some b) below = by (is_open rules history k b)
  where
    by : (t : Bool) → cond t b (begun history) ≤ begun history
    by true = let low = below b refl in omega arith
    by false = omega arith

pub room-le : (rules : Rules) (history : List Atom) (k : Key) → room rules history k ≤ begun history
room-le rules history k = room_in-le rules history k (greatest (λ b. serves rules k (members history b)) (begun history))
    (λ b is. greatest-below (λ b. serves rules k (members history b)) (begun history) b is)

-- ---- the batches that are begun, sent and ended

nat_eq-nat_lt : (b n m : ℕ) → n ≡ m → (nat_eq b n || nat_lt b m) ≡ nat_lt b (m + 1)
nat_eq-nat_lt b n m e = grind (arith, nat_tests)

nat_eq-below : (b n m : ℕ) → n < m → (nat_eq b n || nat_lt b m) ≡ nat_lt b m
nat_eq-below b n m low = grind (arith, nat_tests)

-- how one more atom, which may name a batch, changes which batches are named and how many
named_step : (before : List Atom) (b : ℕ) (o : Option ℕ) → ((n : ℕ) → o ≡ Some n → n ≤ begun before) → ((n : ℕ) → is_named before n ≡ nat_lt n (begun before))
    → (is_number b o || is_named before b) ≡ nat_lt b (count_batch o before (begun before))
named_step before b None low rest = rest b
named_step before b (Some n) low rest = by (is_named before n) refl
  where
    by : (t : Bool) → is_named before n ≡ t → (nat_eq b n || is_named before b) ≡ nat_lt b (cond t (begun before) (begun before + 1))
    by true e =
        let below : n < begun before = ltb-true n (begun before) (sym (rest n) ∙ e) in
        rw (rest b) (nat_eq-below b n (begun before) below)
    by false e =
        let high : begun before ≤ n = ltb-false n (begun before) (sym (rest n) ∙ e) in
        let most : n ≤ begun before = low n refl in
        rw (rest b) (nat_eq-nat_lt b n (begun before) (omega arith))

-- a batch that an answered atom names is one that was begun, or the next
named_low : (rules : Rules) (before : List Atom) (a : Atom) → IsAnswered rules before a → (o : Option Begun) → begins a ≡ o → (n : ℕ) → batch_of o ≡ Some n
    → n ≤ begun before
named_low rules before a answered None is n e = absurd (let bad : ◌≡◌ {A = Option ℕ} None (Some n) = e in cc)
named_low rules before a answered (Some g) is n e =
    let r : n ≡ room rules before g.key = (fresh_cell rules before a g answered is).batch_is n e in
    let low : room rules before g.key ≤ begun before = room-le rules before g.key in
    omega arith

-- the batches that are named are those below the number of batches
pub named : (rules : Rules) (history : List Atom) → AllAnswered rules history → (b : ℕ) → is_named history b ≡ nat_lt b (begun history)
named rules [] legal b = grind (arith, nat_tests)
named rules (a ∷ before) legal b = named_step before b (batch_of (begins a)) (λ n e. named_low rules before a legal.0 (begins a) refl n e)
    (named rules before legal.1)

add_member-other : (b : ℕ) (o : Option Begun) (ms : List (Key × ℕ)) → is_number b (batch_of o) ≡ false → add_member b o ms ≡ ms
add_member-other b None ms other = refl
add_member-other b (Some g) ms other = rw other refl

-- a batch that isn't named has no members
pub members-unnamed : (history : List Atom) (b : ℕ) → is_named history b ≡ false → members history b ≡ []
members-unnamed [] b none = refl
members-unnamed (a ∷ before) b none =
    let p = or_parts (is_number b (batch_of (begins a))) (is_named before b) none in
    add_member-other b (begins a) (members before b) p.0 ∙ members-unnamed before b p.1

count_batch-le : (o : Option ℕ) (before : List Atom) (n : ℕ) → n ≤ count_batch o before n
count_batch-le None before n = omega arith
count_batch-le (Some b) before n = by (is_named before b)
  where
    by : (t : Bool) → n ≤ cond t n (n + 1)
    by true = omega arith
    by false = omega arith

-- a batch that is sent is one that was begun
pub sent-le : (history : List Atom) → sent history ≤ begun history
sent-le [] = omega arith
sent-le (Load k r ∷ before) = let l = sent-le before in let m = count_batch-le (batch_of (begins (Load k r))) before (begun before) in omega arith
sent-le (Prime k r ∷ before) = let l = sent-le before in let m = count_batch-le (batch_of (begins (Prime k r))) before (begun before) in omega arith
sent-le (Dispatch js ∷ before) = omega arith
sent-le (a ∷ before) = sent-le before

end_other : (b n : ℕ) (e : End) (rest : Option End) → (b ≡ n → ⊥) → rest ≡ None → cond (nat_eq b n) (Some e) rest ≡ None
end_other b n e rest other none = by (nat_eq b n) refl
  where
    by : (t : Bool) → nat_eq b n ≡ t → cond t (Some e) rest ≡ None
    by true is = absurd (other (eqb-true b n is))
    by false is = none

-- a batch that isn't sent has not ended
pub end_of-unsent : (rules : Rules) (history : List Atom) → AllAnswered rules history → (b : ℕ) → sent history ≤ b → end_of history b ≡ None
end_of-unsent rules [] legal b high = refl
end_of-unsent rules (Dispatch js ∷ before) legal b high = end_of-unsent rules before legal.1 b (let l = sent-le before in omega arith)
end_of-unsent rules (Settle n ∷ before) legal b high = end_other b n Settled (end_of before b) (λ e. let s = legal.0.is_sent in absurd (omega arith))
    (end_of-unsent rules before legal.1 b high)
end_of-unsent rules (Fail n ∷ before) legal b high = end_other b n Failed (end_of before b) (λ e. let s = legal.0.is_sent in absurd (omega arith))
    (end_of-unsent rules before legal.1 b high)
end_of-unsent rules (a ∷ before) legal b high = end_of-unsent rules before legal.1 b high

-- The batch of a cell and the members of a batch, and that both stay once the batch is sent.
use Rattle.std.proofs.Common.{◌≡◌, ◌∙◌, sym, ap, subst, ℕ, zero, suc, ◌<◌, ◌≤◌, ◌⊎◌, inl, inr, Bool, true, false, not, ◌&&◌, cond, List, [], ◌∷◌, ◌++◌, length}
use Rattle.std.proofs.Common.{Option, Some, None, slice_get, nat_eq, nat_le, nat_lt, refl, arith}
use Rattle.std.proofs.lemmas.Bool.{and_parts, eqb-true, eq-eqb, ne_eqb, leb-true, cases_eq, cases_order}
use Rattle.std.proofs.lemmas.Option.{slice_get_within}
use Rattle.dl_values.specs.Key.{Key}
use Rattle.dl_values.specs.Limits.{Rules, limit_of}
use Rattle.dl_desk.specs.History.{Atom, Dispatch, Begun, begins, cells, is_number, add_member, members, sent, begun}
use Rattle.dl_desk.specs.History.{has_member, greatest, serves, is_open, room_in, room, IsAnswered, AllAnswered}
use Rattle.dl_desk.specs.Events.{batch_at, cell_batch}
use Rattle.dl_desk.proofs.Facts.{fresh_cell, sent-le}
use Rattle.dl_desk.proofs.EndLemmas.{Below, members-below}
use Rattle.dl_history.proofs.ListLemmas.{get-append, get-append_at, get-snoc}

-- ---- a cell among members

-- one of the members has the cell
pub record HasCell (ms : List (Key × ℕ)) (c : ℕ) : Type 0 where
  pub place : ℕ
  pub member : Key × ℕ
  pub at : slice_get ms place ≡ Some member
  pub is : member.1 ≡ c

-- none of the members has the cell
abbrev pub NoCell : List (Key × ℕ) → ℕ → Type 0
NoCell ms c = (i : ℕ) (m : Key × ℕ) → slice_get ms i ≡ Some m → m.1 ≡ c → ⊥

has_more : (ms : List (Key × ℕ)) (m : Key × ℕ) (c : ℕ) → HasCell ms c → HasCell (ms ++ m ∷ []) c
has_more ms m c h = record {
  place = h.place;
  member = h.member;
  at = get-append ms (m ∷ []) h.place (slice_get_within ms h.place h.member h.at) ∙ h.at;
  is = h.is;
}

has_last : (ms : List (Key × ℕ)) (m : Key × ℕ) (c : ℕ) → m.1 ≡ c → HasCell (ms ++ m ∷ []) c
has_last ms m c is = record { place = length ms; member = m; at = get-append_at ms m []; is = is }

-- one of the members has the cell, or none has it
pub has_cell : (ms : List (Key × ℕ)) (c : ℕ) → HasCell ms c ⊎ NoCell ms c
has_cell [] c = inr (λ i m got. absurd (let bad : ◌≡◌ {A = Option (Key × ℕ)} None (Some m) = got in cc))
has_cell (x ∷ ms) c = by (cases_eq x.1 c) (has_cell ms c)
  where
    by : (x.1 ≡ c) ⊎ (x.1 ≡ c → ⊥) → HasCell ms c ⊎ NoCell ms c → HasCell (x ∷ ms) c ⊎ NoCell (x ∷ ms) c
    by (inl is) rest = inl (record { place = 0; member = x; at = refl; is = is })
    by (inr other) (inl h) = inl (record { place = suc h.place; member = h.member; at = h.at; is = h.is })
    by (inr other) (inr none) = inr not
      where
        not : NoCell (x ∷ ms) c
        not zero m got is = let two : ◌≡◌ {A = Option (Key × ℕ)} (Some x) (Some m) = got in let same : x ≡ m = cc in other (ap (λ (n : Key × ℕ). n.1) same ∙ is)
        not (suc i) m got is = none i m got is

-- ---- the batch of a cell

-- a number that an option is
is_number-some : (b : ℕ) (o : Option ℕ) → is_number b o ≡ true → o ≡ Some b
is_number-some b None e = absurd (let bad : false ≡ true = e in cc)
is_number-some b (Some n) e = let same = eqb-true b n e in ap Some (sym same)

some-is_number : (b : ℕ) (o : Option ℕ) → o ≡ Some b → is_number b o ≡ true
some-is_number b None e = absurd (let bad : ◌≡◌ {A = Option ℕ} None (Some b) = e in cc)
some-is_number b (Some n) e = let two : ◌≡◌ {A = Option ℕ} (Some n) (Some b) = e in let same : b ≡ n = cc in eq-eqb b n same

cell_member_step : (history : List Atom) (c b : ℕ) (o : Option Begun) → (cell_batch history c ≡ Some b → HasCell (members history b) c)
    → batch_at c o (cell_batch history c) ≡ Some b → HasCell (add_member b o (members history b)) c
cell_member_step history c b None rest is = rest is
cell_member_step history c b (Some g) rest is = by (nat_eq c g.cell) refl is
  where
    grown : (t : Bool) → HasCell (members history b) c → HasCell (cond t (members history b ++ (g.key, g.cell) ∷ []) (members history b)) c
    grown true h = has_more (members history b) (g.key, g.cell) c h
    grown false h = h

    by : (t : Bool) → nat_eq c g.cell ≡ t → cond t g.batch (cell_batch history c) ≡ Some b
        → HasCell (cond (is_number b g.batch) (members history b ++ (g.key, g.cell) ∷ []) (members history b)) c
    by true same f = rw (some-is_number b g.batch f) (has_last (members history b) (g.key, g.cell) c (sym (eqb-true c g.cell same)))
    by false other f = grown (is_number b g.batch) (rest f)

-- a cell that has a batch is the cell of one of its members
pub cell_member : (history : List Atom) (c b : ℕ) → cell_batch history c ≡ Some b → HasCell (members history b) c
cell_member [] c b is = absurd (let bad : ◌≡◌ {A = Option ℕ} None (Some b) = is in cc)
cell_member (a ∷ before) c b is = cell_member_step before c b (begins a) (cell_member before c b) is

below_at : (n : ℕ) (ms : List (Key × ℕ)) (i : ℕ) (m : Key × ℕ) → Below n ms → slice_get ms i ≡ Some m → m.1 < n
below_at n [] i m below got = absurd (let bad : ◌≡◌ {A = Option (Key × ℕ)} None (Some m) = got in cc)
below_at n (x ∷ ms) zero m below got =
    let two : ◌≡◌ {A = Option (Key × ℕ)} (Some x) (Some m) = got in
    let same : x ≡ m = cc in
    let e : x.1 ≡ m.1 = ap (λ (y : Key × ℕ). y.1) same in
    let low : x.1 < n = below.0 in
    omega arith
below_at n (x ∷ ms) (suc i) m below got = below_at n ms i m below.1 got

-- the cell of a member was begun
pub member_low : (rules : Rules) (history : List Atom) (b i : ℕ) (m : Key × ℕ) → AllAnswered rules history → slice_get (members history b) i ≡ Some m
    → m.1 < cells history
member_low rules history b i m legal got = below_at (cells history) (members history b) i m (members-below rules history legal b) got

member_cell_step : (rules : Rules) (history : List Atom) (a : Atom) (b i : ℕ) (m : Key × ℕ) (o : Option Begun) → AllAnswered rules history
    → IsAnswered rules history a → begins a ≡ o → (slice_get (members history b) i ≡ Some m → cell_batch history m.1 ≡ Some b)
    → slice_get (add_member b o (members history b)) i ≡ Some m → batch_at m.1 o (cell_batch history m.1) ≡ Some b
member_cell_step rules history a b i m None legal answered is rest got = rest got
member_cell_step rules history a b i m (Some g) legal answered is rest got = by (is_number b g.batch) refl got
  where
    next : g.cell ≡ cells history
    next = (fresh_cell rules history a g answered is).cell_is

    old : slice_get (members history b) i ≡ Some m → cond (nat_eq m.1 g.cell) g.batch (cell_batch history m.1) ≡ Some b
    old at =
        let low = member_low rules history b i m legal at in
        let n = next in
        rw (ne_eqb m.1 g.cell (λ e. absurd (omega arith))) (rest at)

    new : g.batch ≡ Some b
        → ((i < length (members history b)) × (slice_get (members history b) i ≡ Some m)) ⊎ ((i ≡ length (members history b)) × (m ≡ (g.key, g.cell)))
        → cond (nat_eq m.1 g.cell) g.batch (cell_batch history m.1) ≡ Some b
    new own (inl within) = old within.1
    new own (inr last) = let e : m.1 ≡ g.cell = ap (λ (y : Key × ℕ). y.1) last.1 in rw (eq-eqb m.1 g.cell e) own

    by : (t : Bool) → is_number b g.batch ≡ t → slice_get (cond t (members history b ++ (g.key, g.cell) ∷ []) (members history b)) i ≡ Some m
        → cond (nat_eq m.1 g.cell) g.batch (cell_batch history m.1) ≡ Some b
    by true own f = new (is_number-some b g.batch own) (get-snoc (members history b) (g.key, g.cell) m i f)
    by false other f = old f

-- the cell of a member has the batch
pub member_cell : (rules : Rules) (history : List Atom) (b i : ℕ) (m : Key × ℕ) → AllAnswered rules history → slice_get (members history b) i ≡ Some m
    → cell_batch history m.1 ≡ Some b
member_cell rules [] b i m legal got = absurd (let bad : ◌≡◌ {A = Option (Key × ℕ)} None (Some m) = got in cc)
member_cell rules (a ∷ before) b i m legal got =
    member_cell_step rules before a b i m (begins a) legal.1 legal.0 refl (member_cell rules before b i m legal.1) got

-- ---- the order of the members

-- each member's cell is above those of the members before it
abbrev pub Rising : List (Key × ℕ) → Type 0
Rising ms = (i j : ℕ) (m n : Key × ℕ) → i < j → slice_get ms i ≡ Some m → slice_get ms j ≡ Some n → m.1 < n.1

rising_push : (ms : List (Key × ℕ)) (x : Key × ℕ) → Rising ms → Below x.1 ms → Rising (ms ++ x ∷ [])
rising_push ms x rising below i j m n low first second = by (get-snoc ms x m i first) (get-snoc ms x n j second)
  where
    by : ((i < length ms) × (slice_get ms i ≡ Some m)) ⊎ ((i ≡ length ms) × (m ≡ x))
        → ((j < length ms) × (slice_get ms j ≡ Some n)) ⊎ ((j ≡ length ms) × (n ≡ x)) → m.1 < n.1
    by (inl f) (inl s) = rising i j m n low f.1 s.1
    by (inl f) (inr s) =
        let l : m.1 < x.1 = below_at x.1 ms i m below f.1 in
        let e : n.1 ≡ x.1 = ap (λ (y : Key × ℕ). y.1) s.1 in
        omega arith
    by (inr f) (inl s) = let p = f.0 in let q = s.0 in absurd (omega arith)
    by (inr f) (inr s) = let p = f.0 in let q = s.0 in absurd (omega arith)

rising_step : (rules : Rules) (history : List Atom) (a : Atom) (b : ℕ) (o : Option Begun) → AllAnswered rules history → IsAnswered rules history a → begins a ≡ o
    → Rising (members history b) → Rising (add_member b o (members history b))
rising_step rules history a b None legal answered is rising = rising
rising_step rules history a b (Some g) legal answered is rising = by (is_number b g.batch)
  where
    below : Below g.cell (members history b)
    below = let P : ℕ → Type 0 =
        λ n. Below n (members history b) in subst P (sym (fresh_cell rules history a g answered is).cell_is) (members-below rules history legal b)

    by : (t : Bool) → Rising (cond t (members history b ++ (g.key, g.cell) ∷ []) (members history b))
    by true = rising_push (members history b) (g.key, g.cell) rising below
    by false = rising

-- the cells of a batch's members rise
pub members-rise : (rules : Rules) (history : List Atom) (b : ℕ) → AllAnswered rules history → Rising (members history b)
members-rise rules [] b legal = λ i j m n low first second. absurd (let bad : ◌≡◌ {A = Option (Key × ℕ)} None (Some m) = first in cc)
members-rise rules (a ∷ before) b legal = rising_step rules before a b (begins a) legal.1 legal.0 refl (members-rise rules before b legal.1)

-- so no two members have one cell
pub members-apart : (rules : Rules) (history : List Atom) (b i j : ℕ) (m n : Key × ℕ) → AllAnswered rules history → slice_get (members history b) i ≡ Some m
    → slice_get (members history b) j ≡ Some n → m.1 ≡ n.1 → i ≡ j
members-apart rules history b i j m n legal first second same = by (cases_order i j)
  where
    by : (i ≡ j) ⊎ ((i < j) ⊎ (j < i)) → i ≡ j
    by (inl e) = e
    by (inr (inl low)) = let l = members-rise rules history b legal i j m n low first second in absurd (omega arith)
    by (inr (inr low)) = let l = members-rise rules history b legal j i n m low second first in absurd (omega arith)

-- ---- a batch that is sent

room_in-unsent : (rules : Rules) (history : List Atom) (k : Key) (o : Option ℕ) → sent history ≤ room_in rules history k o
room_in-unsent rules history k None = sent-le history
room_in-unsent rules history k (Some b) = by (is_open rules history k b) refl
  where
    by : (t : Bool) → is_open rules history k b ≡ t → sent history ≤ cond t b (begun history)
    by true opened =
        let ms = members history b in
        let outer = and_parts (nat_le (sent history) b && nat_lt (length ms) (limit_of rules k.table)) (not (has_member ms k)) opened in
        leb-true (sent history) b (and_parts (nat_le (sent history) b) (nat_lt (length ms) (limit_of rules k.table)) outer.0).0
    by false other = sent-le history

-- the batch of a cell that is begun isn't sent
begun_unsent : (rules : Rules) (history : List Atom) (a : Atom) (g : Begun) (b : ℕ) → IsAnswered rules history a → begins a ≡ Some g → g.batch ≡ Some b
    → sent history ≤ b
begun_unsent rules history a g b answered is own =
    let e : b ≡ room rules history g.key = (fresh_cell rules history a g answered is).batch_is b own in
    let high : sent history ≤ room rules history g.key =
    room_in-unsent rules history g.key (greatest (λ n. serves rules g.key (members history n)) (begun history)) in
    omega arith

members_stay_step : (rules : Rules) (history : List Atom) (a : Atom) (b : ℕ) (o : Option Begun) → IsAnswered rules history a → begins a ≡ o → b < sent history
    → add_member b o (members history b) ≡ members history b
members_stay_step rules history a b None answered is low = refl
members_stay_step rules history a b (Some g) answered is low = by (is_number b g.batch) refl
  where
    by : (t : Bool) → is_number b g.batch ≡ t → cond t (members history b ++ (g.key, g.cell) ∷ []) (members history b) ≡ members history b
    by true own = let high = begun_unsent rules history a g b answered is (is_number-some b g.batch own) in absurd (omega arith)
    by false other = refl

sent_more : (a : Atom) (history : List Atom) → sent history ≤ sent (a ∷ history)
sent_more (Dispatch js) history = sent-le history
sent_more a history = omega arith

-- a longer history has no fewer batches that are sent
sent-append : (added history : List Atom) → sent history ≤ sent (added ++ history)
sent-append [] history = omega arith
sent-append (a ∷ added) history =
    let rest = sent-append added history in
    let one = sent_more a (added ++ history) in
    omega arith

-- a batch that is sent gets no more members
pub members_stay : (rules : Rules) (added history : List Atom) (b : ℕ) → AllAnswered rules (added ++ history) → b < sent history
    → members (added ++ history) b ≡ members history b
members_stay rules [] history b legal low = refl
members_stay rules (a ∷ added) history b legal low =
    let more = sent-append added history in
    let still : b < sent (added ++ history) = omega arith in
    members_stay_step rules (added ++ history) a b (begins a) legal.0 refl still ∙ members_stay rules added history b legal.1 low

unsent_step : (rules : Rules) (history : List Atom) (a : Atom) (c n : ℕ) (o : Option Begun) → IsAnswered rules history a → begins a ≡ o → n ≤ sent history
    → ((b : ℕ) → cell_batch history c ≡ Some b → n ≤ b) → (b : ℕ) → batch_at c o (cell_batch history c) ≡ Some b → n ≤ b
unsent_step rules history a c n None answered is low rest b f = rest b f
unsent_step rules history a c n (Some g) answered is low rest b f = by (nat_eq c g.cell) f
  where
    by : (t : Bool) → cond t g.batch (cell_batch history c) ≡ Some b → n ≤ b
    by true own = let high = begun_unsent rules history a g b answered is own in omega arith
    by false old = rest b old

-- a cell whose batch isn't sent, if it has one, has no sent one in a longer history
pub still_unsent : (rules : Rules) (added history : List Atom) (c : ℕ) → AllAnswered rules (added ++ history)
    → ((b : ℕ) → cell_batch history c ≡ Some b → sent history ≤ b) → (b : ℕ) → cell_batch (added ++ history) c ≡ Some b → sent history ≤ b
still_unsent rules [] history c legal rest = rest
still_unsent rules (a ∷ added) history c legal rest =
    unsent_step rules (added ++ history) a c (sent history) (begins a) legal.0 refl (sent-append added history) (still_unsent rules added history c legal.1 rest)

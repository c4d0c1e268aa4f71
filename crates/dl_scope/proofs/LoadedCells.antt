-- Where nothing is primed, the cell with which a load is replied is one that a fresh load of its key began.
use Rattle.std.proofs.Common.{◌≡◌, sym, ap, subst, ℕ, zero, suc, Bool, true, false, cond, List, [], ◌∷◌, ◌++◌, length, Option, Some, None, slice_get, refl}
use Rattle.std.specs.List.{list_any}
use Rattle.std.proofs.lemmas.Bool.{eq-eqb}
use Rattle.dl_values.specs.Key.{Key, key_eq}
use Rattle.dl_values.specs.Limits.{Rules}
use Rattle.dl_desk.specs.History.{Atom, Load, Prime, Begun, begins, is_number, add_member, members, cells, room}
use Rattle.dl_desk.specs.History.{Latest, later, latest_at, latest, forgets, cell_kept, held, load_reply_at, load_reply, load_replies, loaded}
use Rattle.dl_desk.specs.declared.reply.LoadReply.{LoadReply}
use Rattle.dl_desk.specs.declared.reply.LoadReply.TheVariants.{Hit, Fresh}
use Rattle.dl_values.proofs.KeyLemmas.{key_eq-same}
use Rattle.dl_history.specs.Entries.{cell_of_load}
use Rattle.dl_history.specs.Lists.{Every}
use Rattle.dl_history.proofs.ListLemmas.{get-append_at, get_longer}

-- ---- the cells that fresh loads began

-- A fresh load of the key began the cell: both stand among the members of its batch.
pub record LoadBegan (history : List Atom) (k : Key) (c : ℕ) : Type 0 where
  pub batch : ℕ
  pub place : ℕ
  pub at : slice_get (members history batch) place ≡ Some (k, c)

member_stays : (ms : List (Key × ℕ)) (b i : ℕ) (m : Key × ℕ) (o : Option Begun) → slice_get ms i ≡ Some m → slice_get (add_member b o ms) i ≡ Some m
member_stays ms b i m None got = got
member_stays ms b i m (Some g) got = by (is_number b g.batch)
  where
    by : (t : Bool) → slice_get (cond t (ms ++ (g.key, g.cell) ∷ []) ms) i ≡ Some m
    by true = get_longer ms ((g.key, g.cell) ∷ []) i m got
    by false = got

-- this stays so with one more atom
began_later : (a : Atom) (history : List Atom) (k : Key) (c : ℕ) → LoadBegan history k c → LoadBegan (a ∷ history) k c
began_later a history k c began = record {
  batch = began.batch;
  place = began.place;
  at = member_stays (members history began.batch) began.batch began.place (k, c) (begins a) began.at;
}

-- and with more
pub began_append : (added history : List Atom) (k : Key) (c : ℕ) → LoadBegan history k c → LoadBegan (added ++ history) k c
began_append [] history k c began = began
began_append (a ∷ added) history k c began = began_later a (added ++ history) k c (began_append added history k c began)

began_loaded : (rules : Rules) (history : List Atom) (ks : List Key) (k : Key) (c : ℕ) → LoadBegan history k c → LoadBegan (loaded rules history ks) k c
began_loaded rules history [] k c began = began
began_loaded rules history (j ∷ ks) k c began =
    let a = Load j (load_reply rules history j) in
    began_loaded rules (a ∷ history) ks k c (began_later a history k c began)

-- an atom that begins a cell in a batch is a fresh load
began_now : (a : Atom) (history : List Atom) (g : Begun) (b : ℕ) → begins a ≡ Some g → g.batch ≡ Some b → LoadBegan (a ∷ history) g.key g.cell
began_now a history g b is own = record {
  batch = b;
  place = length (members history b);
  at = rw (is, own, eq-eqb b b refl) (get-append_at (members history b) (g.key, g.cell) []);
}

-- ---- the cell that is held

-- the atom primes no key
abbrev pub PrimesNone : Atom → Type 0
PrimesNone (Prime k r) = ⊥
PrimesNone a = Unit {0}

-- so a cell that it begins has a batch
batched : (a : Atom) (g : Begun) → PrimesNone a → begins a ≡ Some g → (b : ℕ) × (g.batch ≡ Some b)
batched (Load k (Fresh c b)) g none is =
    let same : record { key = k; cell = c; batch = Some b } ≡ g = cc in
    (b, ap (λ (x : Begun). x.batch) (sym same))
batched (Prime k r) g none is = absurd none
batched a g none is = absurd (let bad : ◌≡◌ {A = Option Begun} None (Some g) = is in cc)

later_step : (a : Atom) (before : List Atom) (k : Key) (l : Latest) (rest : Option Latest) → ((x : Latest) → rest ≡ Some x → LoadBegan before k x.cell)
    → later a rest ≡ Some l → LoadBegan (a ∷ before) k l.cell
later_step a before k l None old got = absurd (let bad : ◌≡◌ {A = Option Latest} None (Some l) = got in cc)
later_step a before k l (Some x) old got =
    let two : ◌≡◌ {A = Option Latest} (later a (Some x)) (Some l) = got in
    let same : record { cell = x.cell; batch = x.batch; after = a ∷ x.after } ≡ l = cc in
    let cell : x.cell ≡ l.cell = ap (λ (y : Latest). y.cell) same in
    subst (LoadBegan (a ∷ before) k) cell (began_later a before k x.cell (old x refl))

latest_step : (a : Atom) (before : List Atom) (k : Key) (l : Latest) (o : Option Begun) (rest : Option Latest) → PrimesNone a → begins a ≡ o
    → ((x : Latest) → rest ≡ Some x → LoadBegan before k x.cell) → latest_at k o (later a rest) ≡ Some l → LoadBegan (a ∷ before) k l.cell
latest_step a before k l None rest none is old got = later_step a before k l rest old got
latest_step a before k l (Some g) rest none is old got = by (key_eq g.key k) refl got
  where
    by : (t : Bool) → key_eq g.key k ≡ t → cond t (Some (record { cell = g.cell; batch = g.batch; after = [] })) (later a rest) ≡ Some l
        → LoadBegan (a ∷ before) k l.cell
    by true own e =
        let same : record { cell = g.cell; batch = g.batch; after = [] } ≡ l = cc in
        let cell : g.cell ≡ l.cell = ap (λ (y : Latest). y.cell) same in
        let key : g.key ≡ k = key_eq-same g.key k own in
        let batch = batched a g none is in
        subst (LoadBegan (a ∷ before) k) cell (subst (λ (q : Key). LoadBegan (a ∷ before) q g.cell) key (began_now a before g batch.0 is batch.1))
    by false other e = later_step a before k l rest old e

-- the last atom that began a cell for a key is a fresh load of it
latest_began : (history : List Atom) (k : Key) (l : Latest) → Every PrimesNone history → latest history k ≡ Some l → LoadBegan history k l.cell
latest_began [] k l none got = absurd (let bad : ◌≡◌ {A = Option Latest} None (Some l) = got in cc)
latest_began (a ∷ before) k l none got =
    latest_step a before k l (begins a) (latest before k) none.0 refl (λ x is. latest_began before k x none.1 is) got

held_began : (history : List Atom) (k : Key) (c : ℕ) → Every PrimesNone history → held history k ≡ Some c → LoadBegan history k c
held_began history k c none got = by (latest history k) (λ l is. latest_began history k l none is) got
  where
    kept : (l : Latest) (t : Bool) → LoadBegan history k l.cell → cond t None (Some l.cell) ≡ Some c → LoadBegan history k c
    kept l true began e = absurd (let bad : ◌≡◌ {A = Option ℕ} None (Some c) = e in cc)
    kept l false began e = let same : l.cell ≡ c = cc in subst (LoadBegan history k) same began

    by : (o : Option Latest) → ((l : Latest) → o ≡ Some l → LoadBegan history k l.cell) → cell_kept k o ≡ Some c → LoadBegan history k c
    by None began e = absurd (let bad : ◌≡◌ {A = Option ℕ} None (Some c) = e in cc)
    by (Some l) began e = kept l (list_any (forgets k l.batch) l.after) (began l refl) e

-- ---- the cells of replies

reply_began_at : (rules : Rules) (history : List Atom) (k : Key) (o : Option ℕ) → Every PrimesNone history → held history k ≡ o
    → LoadBegan (Load k (load_reply_at rules history k o) ∷ history) k (cell_of_load (load_reply_at rules history k o))
reply_began_at rules history k None none is =
    let b = room rules history k in
    began_now (Load k (Fresh (cells history) b)) history (record { key = k; cell = cells history; batch = Some b }) b refl refl
reply_began_at rules history k (Some c) none is = began_later (Load k (Hit c)) history k c (held_began history k c none is)

-- the cell with which a load is replied was begun by a fresh load of its key, which may be the load itself
pub reply_began : (rules : Rules) (history : List Atom) (k : Key) → Every PrimesNone history
    → LoadBegan (Load k (load_reply rules history k) ∷ history) k (cell_of_load (load_reply rules history k))
reply_began rules history k none = reply_began_at rules history k (held history k) none refl

-- and so were those of a loadMany
pub replies_began : (rules : Rules) (history : List Atom) (ks : List Key) (i : ℕ) (k : Key) (r : LoadReply) → Every PrimesNone history
    → slice_get ks i ≡ Some k → slice_get (load_replies rules history ks) i ≡ Some r
    → LoadBegan (loaded rules history ks) k (cell_of_load r)
replies_began rules history [] i k r none key reply = absurd (let bad : ◌≡◌ {A = Option Key} None (Some k) = key in cc)
replies_began rules history (j ∷ ks) zero k r none key reply =
    let now = load_reply rules history j in
    let after = Load j now ∷ history in
    let keys : ◌≡◌ {A = Option Key} (Some j) (Some k) = key in
    let replies : ◌≡◌ {A = Option LoadReply} (Some now) (Some r) = reply in
    let same_key : j ≡ k = cc in
    let same_reply : now ≡ r = cc in
    let began : LoadBegan (loaded rules after ks) j (cell_of_load now) =
    began_loaded rules after ks j (cell_of_load now) (reply_began rules history j none) in
    subst (λ (q : Key). LoadBegan (loaded rules after ks) q (cell_of_load r)) same_key
    (subst (λ (p : LoadReply). LoadBegan (loaded rules after ks) j (cell_of_load p)) same_reply began)
replies_began rules history (j ∷ ks) (suc i) k r none key reply =
    replies_began rules (Load j (load_reply rules history j) ∷ history) ks i k r (tt, none) key reply

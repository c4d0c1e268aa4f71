-- The cells with which calls are answered: each of them was begun.
use Rattle.std.proofs.Common.{◌≡◌, sym, ap, subst, ℕ, suc, ◌+◌, ◌<◌, ◌≤◌, Bool, true, false, cond, List, [], ◌∷◌, ◌++◌, length, Option, Some, None, refl, arith, take, drop}
use Rattle.std.proofs.Common.{slice_get}
use Rattle.std.specs.List.{list_any}
use Rattle.dl_values.specs.Key.{Key, key_eq}
use Rattle.dl_values.specs.Limits.{Rules}
use Rattle.dl_desk.specs.History.{Atom, Begun, begins, cells, count_cell, Latest, later, latest_at, latest, forgets, cell_kept, held, load_reply, load_replies}
use Rattle.dl_desk.specs.History.{loaded, IsAnswered, AllAnswered}
use Rattle.dl_desk.specs.History as atom
use Rattle.dl_desk.specs.Events.{call_atoms, atoms}
use Rattle.dl_desk.specs.Calls.{after}
use Rattle.dl_desk.specs.declared.reply.LoadReply.{LoadReply}
use Rattle.dl_desk.specs.declared.reply.LoadReply.TheVariants.{Hit, Fresh}
use Rattle.dl_desk.proofs.Facts.{fresh_cell}
use Rattle.dl_desk.specs.declared.event.Event.{Event}
use Rattle.dl_desk.specs.declared.event.Call.{Call}
use Rattle.dl_history.specs.Entries.{cell_of_load, answered}
use Rattle.dl_history.specs.History.{past, IsLegal}
use Rattle.dl_history.specs.Lists.{Every}
use Rattle.dl_desk.specs.Legal.{reply_to, call_of, IsNext}
use Rattle.dl_desk.specs.Service.{Service}
use Rattle.dl_desk.proofs.LawEnds.{cells-append}
use Rattle.dl_desk.proofs.PastAtoms.{legal_atoms}
use Rattle.dl_history.proofs.ListLemmas.{take-get}
use Rattle.dl_history.proofs.Pasts.{atoms_next, legal_front, legal_place}
use Rattle.std.proofs.lemmas.List.{reverse-append, take-append-drop}
use Rattle.dl_desk.specs.declared.event.Call.TheVariants.{Load, LoadMany, Prime}
use Rattle.dl_history.proofs.ListLemmas.{every_map}

-- ---- the cell that is held

latest_step : (rules : Rules) (a : Atom) (before : List Atom) (k : Key) (l : Latest) (o : Option Begun) (rest : Option Latest) → IsAnswered rules before a
    → begins a ≡ o → ((x : Latest) → rest ≡ Some x → x.cell < cells before) → latest_at k o (later a rest) ≡ Some l → l.cell < count_cell o (cells before)
latest_step rules a before k l None None answered is low got = absurd (let bad : ◌≡◌ {A = Option Latest} None (Some l) = got in cc)
latest_step rules a before k l None (Some x) answered is low got =
    let old : x.cell < cells before = low x refl in
    let same : ◌≡◌ {A = Option Latest} (later a (Some x)) (Some l) = got in
    let cell : x.cell ≡ l.cell = let inner : record { cell = x.cell; batch = x.batch; after = a ∷ x.after } ≡ l = cc in ap (λ (y : Latest). y.cell) inner in
    omega arith
latest_step rules a before k l (Some g) rest answered is low got = by (key_eq g.key k) rest low got
  where
    by : (t : Bool) (r : Option Latest) → ((x : Latest) → r ≡ Some x → x.cell < cells before)
        → cond t (Some (record { cell = g.cell; batch = g.batch; after = [] })) (later a r) ≡ Some l → l.cell < cells before + 1
    by true r b e =
        let inner : record { cell = g.cell; batch = g.batch; after = [] } ≡ l = cc in
        let cell : g.cell ≡ l.cell = ap (λ (y : Latest). y.cell) inner in
        let first = (fresh_cell rules before a g answered is).cell_is in
        omega arith
    by false None b e = absurd (let bad : ◌≡◌ {A = Option Latest} None (Some l) = e in cc)
    by false (Some x) b e =
        let old : x.cell < cells before = b x refl in
        let same : ◌≡◌ {A = Option Latest} (later a (Some x)) (Some l) = e in
        let cell : x.cell ≡ l.cell = let inner : record { cell = x.cell; batch = x.batch; after = a ∷ x.after } ≡ l = cc in ap (λ (y : Latest). y.cell) inner in
        omega arith

latest_low : (rules : Rules) (history : List Atom) → AllAnswered rules history → (k : Key) (l : Latest) → latest history k ≡ Some l → l.cell < cells history
latest_low rules [] legal k l got = absurd (let bad : ◌≡◌ {A = Option Latest} None (Some l) = got in cc)
latest_low rules (a ∷ before) legal k l got = latest_step rules a before k l (begins a) (latest before k) legal.0 refl (latest_low rules before legal.1 k) got

-- a cell that is held was begun
pub held_low : (rules : Rules) (history : List Atom) → AllAnswered rules history → (k : Key) (c : ℕ) → held history k ≡ Some c → c < cells history
held_low rules history legal k c got = by (latest history k) (latest_low rules history legal k) got
  where
    kept : (l : Latest) (t : Bool) → l.cell < cells history → cond t None (Some l.cell) ≡ Some c → c < cells history
    kept l true low e = absurd (let bad : ◌≡◌ {A = Option ℕ} None (Some c) = e in cc)
    kept l false low e = let same : l.cell ≡ c = cc in omega arith

    by : (o : Option Latest) → ((l : Latest) → o ≡ Some l → l.cell < cells history) → cell_kept k o ≡ Some c → c < cells history
    by None low e = absurd (let bad : ◌≡◌ {A = Option ℕ} None (Some c) = e in cc)
    by (Some l) low e = kept l (list_any (forgets k l.batch) l.after) (low l refl) e

-- ---- the cells of replies

-- the cell with which a load is answered was begun, with the load
pub reply_low : (rules : Rules) (history : List Atom) → AllAnswered rules history → (k : Key) (r : LoadReply) → r ≡ load_reply rules history k
    → cell_of_load r < cells (atom.Load k r ∷ history)
reply_low rules history legal k r is = by (held history k) refl
  where
    by : (o : Option ℕ) → held history k ≡ o → cell_of_load r < cells (atom.Load k r ∷ history)
    by None none =
        let fresh : r ≡ load_reply rules history k = is in
        rw (is, none) (omega arith)
    by (Some c) some =
        let low = held_low rules history legal k c some in
        rw (is, some) low

cells_loaded : (rules : Rules) (history : List Atom) (ks : List Key) → cells history ≤ cells (loaded rules history ks)
cells_loaded rules history [] = omega arith
cells_loaded rules history (k ∷ ks) =
    let rest = cells_loaded rules (atom.Load k (load_reply rules history k) ∷ history) ks in
    let one : cells history ≤ cells (atom.Load k (load_reply rules history k) ∷ history) = by (load_reply rules history k) in
    omega arith
  where
    by : (r : LoadReply) → cells history ≤ cells (atom.Load k r ∷ history)
    by (Hit c) = omega arith
    by (Fresh c b) = omega arith

-- and so were those of a loadMany
pub replies_low : (rules : Rules) (history : List Atom) → AllAnswered rules history → (ks : List Key)
    → Every (λ r. cell_of_load r < cells (loaded rules history ks)) (load_replies rules history ks)
replies_low rules history legal [] = tt
replies_low rules history legal (k ∷ ks) =
    let r = load_reply rules history k in
    let here = reply_low rules history legal k r refl in
    let more = cells_loaded rules (atom.Load k r ∷ history) ks in
    (omega arith, replies_low rules (atom.Load k r ∷ history) (refl, legal) ks)

-- there is a reply for each key
pub replies_long : (rules : Rules) (history : List Atom) (ks : List Key) → length (load_replies rules history ks) ≡ length ks
replies_long rules history [] = refl
replies_long rules history (k ∷ ks) = ap suc (replies_long rules (atom.Load k (load_reply rules history k) ∷ history) ks)

-- ---- the cells with which events are answered were begun

-- a number of cells that is above each of these
abbrev pub AllBelow : ℕ → List ℕ → Type 0
AllBelow n cs = Every (λ c. c < n) cs

-- by a next event
answered_now : (s : Service) (es : List Event) (e : Event) (call : Call) → IsLegal s es → IsNext s (past es) e → e.call ≡ call
    → AllBelow (cells (after s.rules (atoms (past es)) (call_of call))) (answered (reply_to s.rules (atoms (past es)) call))
answered_now s es e (Load k) legal next is = (reply_low s.rules (atoms (past es)) (legal_atoms s (past es) legal) k _ refl, tt)
answered_now s es e (LoadMany ks) legal next is =
    every_map cell_of_load (λ c. c < cells (loaded s.rules (atoms (past es)) ks)) (load_replies s.rules (atoms (past es)) ks)
    (replies_low s.rules (atoms (past es)) (legal_atoms s (past es) legal) ks)
answered_now s es e (Prime k o) legal next is = by (held (atoms (past es)) k) refl
  where
    by : (h : Option ℕ) → held (atoms (past es)) k ≡ h
        → AllBelow (cells (after s.rules (atoms (past es)) (call_of (Prime k o)))) (answered (reply_to s.rules (atoms (past es)) (Prime k o)))
    by None none = rw none (omega arith, tt)
    by (Some c) some = rw some tt
answered_now s es e call legal next is = tt

answered_next : (s : Service) (es : List Event) (e : Event) → IsLegal s es → IsNext s (past es) e → AllBelow (cells (atoms (past (es ++ e ∷ [])))) (answered e.reply)
answered_next s es e legal next = rw (atoms_next s es e next, next.reply) (answered_now s es e e.call legal next refl)

cells_past : (later before : List Event) → cells (atoms before) ≤ cells (atoms (later ++ before))
cells_past [] before = omega arith
cells_past (e ∷ later) before =
    let rest = cells_past later before in
    let one = cells-append (call_atoms e.call e.reply) (atoms (later ++ before)) in
    omega arith

-- later events leave each cell begun
cells_later : (xs ys : List Event) → cells (atoms (past xs)) ≤ cells (atoms (past (xs ++ ys)))
cells_later xs ys = rw (reverse-append xs ys) (cells_past (past ys) (past xs))

all_below_more : (n m : ℕ) (cs : List ℕ) → n ≤ m → AllBelow n cs → AllBelow m cs
all_below_more n m [] more below = tt
all_below_more n m (c ∷ cs) more below = (let low = below.0 in omega arith, all_below_more n m cs more below.1)

-- by each event of a legal history
pub answered_low : (s : Service) (es : List Event) (k : ℕ) (e : Event) → IsLegal s es → slice_get es k ≡ Some e
    → AllBelow (cells (atoms (past es))) (answered e.reply)
answered_low s es k e legal got =
    let split : take (suc k) es ++ drop (suc k) es ≡ es = take-append-drop (suc k) es in
    let whole : IsLegal s (take k es ++ drop k es) = subst (IsLegal s) (sym (take-append-drop k es)) legal in
    let now = answered_next s (take k es) e (legal_front s (take k es) (drop k es) whole) (legal_place s es k e legal got) in
    let there : AllBelow (cells (atoms (past (take (suc k) es)))) (answered e.reply) = rw (take-get es k e got) now in
    let later : cells (atoms (past (take (suc k) es))) ≤ cells (atoms (past es)) = rw split at (cells_later (take (suc k) es) (drop (suc k) es)) in
    all_below_more (cells (atoms (past (take (suc k) es)))) (cells (atoms (past es))) (answered e.reply) later there

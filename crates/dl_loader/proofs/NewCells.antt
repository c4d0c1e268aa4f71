-- How many cells a call begins, and that those of an accepted one fit.
use Rattle.std.proofs.Common.{◌≡◌, ◌∙◌, sym, ap, ℕ, ◌+◌, ◌<◌, ◌≤◌, Bool, true, false, cond, List, [], ◌∷◌, ◌++◌, length, take, get_or}
use Rattle.std.proofs.Common.{Option, Some, None, nat_lt, refl, arith}
use Rattle.std.proofs.lemmas.Bool.{ltb-false}
use Rattle.std.proofs.lemmas.List.{take_more}
use Rattle.std.proofs.lemmas.List.Sums.{sum_by-append, sum_by-cons}
use Rattle.dl_values.specs.Key.{Key}
use Rattle.dl_values.specs.Limits.{Rules}
use Rattle.dl_desk.specs.History.{Atom, begins, count_cell, cells, held, load_reply, load_replies, loaded, prime_reply, prime_reply_at}
use Rattle.dl_desk.specs.BatchBook.{BatchBook, StandsFor}
use Rattle.dl_desk.specs.Calls.{new_count, full, refusal, after}
use Rattle.dl_desk.specs.declared.call.DeskCall.TheVariants as asked
use Rattle.dl_desk.specs.declared.fault.DeskFault.{DeskFault}
use Rattle.dl_desk.specs.declared.fault.DeskFault.TheVariants.{CellsFull}
use Rattle.dl_desk.specs.declared.reply.LoadReply.{LoadReply}
use Rattle.dl_desk.specs.declared.reply.LoadReply.TheVariants.{Hit, Fresh}
use Rattle.dl_desk.specs.declared.reply.DeskPrime.TheVariants.{Primed, Kept}
use Rattle.dl_desk.proofs.Counts.{cells-loaded}
use Rattle.dl_loader.specs.Inside.NewCells.{begun_by, cells_begun, begun_in}
use Rattle.dl_desk.specs.declared.reply.DeskPrime.{DeskPrime}
use Rattle.dl_desk.specs.declared.event.Call.{Call}
use Rattle.dl_desk.specs.declared.event.Call.TheVariants.{Load, LoadMany, Prime}
use Rattle.dl_desk.specs.Calls.{primed}
use Rattle.dl_desk.specs.Legal.{call_of, reply_to}
use Rattle.dl_desk.specs.History as atom
use Rattle.dl_desk.specs.Calls as desk
use Rattle.dl_desk.specs.declared.reply.DeskPrime.TheVariants as prime

-- ---- an atom that begins no cell

-- an atom that begins no cell leaves as many as there were
pub same_cells : (history : List Atom) (a : Atom) (old new : BatchBook) → begins a ≡ None → StandsFor old history → StandsFor new (a ∷ history)
    → new.cells ≡ old.cells
same_cells history a old new none before now =
    let count : cells (a ∷ history) ≡ cells history = rw none refl in
    now.cells ∙ (count ∙ sym before.cells)

-- ---- loads

-- the cells of one load more
begun-snoc : (rs : List LoadReply) (r : LoadReply) → cells_begun (rs ++ r ∷ []) ≡ cells_begun rs + begun_by r
begun-snoc rs r =
    let more : cells_begun (rs ++ r ∷ []) ≡ cells_begun rs + cells_begun (r ∷ []) = sum_by-append begun_by rs (r ∷ []) in
    let one : cells_begun (r ∷ []) ≡ begun_by r + 0 = sum_by-cons begun_by r [] in
    omega arith

-- the cells that loads began, with the load at a place
pub begun_next : (rs : List LoadReply) (i n m : ℕ) (d r : LoadReply) → i < length rs → n ≡ cells_begun (take i rs) → get_or rs i d ≡ r → m ≡ n + begun_by r
    → m ≡ cells_begun (take (i + 1) rs)
begun_next rs i n m d r low before is more =
    let longer : take (i + 1) rs ≡ take i rs ++ r ∷ [] = take_more rs i d low ∙ ap (λ (x : LoadReply). take i rs ++ x ∷ []) is in
    rw (longer, begun-snoc (take i rs) r, more, before) refl

-- a load begins as many cells as its reply says
load_begins : (k : Key) (r : LoadReply) (n : ℕ) → count_cell (begins (atom.Load k r)) n ≡ n + begun_by r
load_begins k (Hit c) n = omega arith
load_begins k (Fresh c b) n = omega arith

-- and loads as many as their replies tell
pub cells-replies : (rules : Rules) (history : List Atom) (ks : List Key)
    → cells (loaded rules history ks) ≡ cells history + cells_begun (load_replies rules history ks)
cells-replies rules history [] = omega arith
cells-replies rules history (k ∷ ks) =
    let r = load_reply rules history k in
    let rest = cells-replies rules (atom.Load k r ∷ history) ks in
    let one = load_begins k r (cells history) in
    let both = sum_by-cons begun_by r (load_replies rules (atom.Load k r ∷ history) ks) in
    omega arith

-- the keys that are not held are as many as the loads of the keys begin cells
pub new_count-replies : (rules : Rules) (history : List Atom) (ks : List Key) → new_count history ks ≡ cells_begun (load_replies rules history ks)
new_count-replies rules history ks = let by_keys = cells-loaded rules history ks in let by_replies = cells-replies rules history ks in omega arith

-- a desk has begun as many cells more after loads of keys as the replies tell
pub loads_count : (rules : Rules) (history : List Atom) (ks : List Key) (old new : BatchBook) → StandsFor old history → StandsFor new (loaded rules history ks)
    → new.cells ≡ old.cells + cells_begun (load_replies rules history ks)
loads_count rules history ks old new before now =
    let were = before.cells in
    let are = now.cells in
    let more = cells-replies rules history ks in
    omega arith

fits_at : (limit n : ℕ) (t : Bool) → nat_lt limit n ≡ t → cond t (Some (CellsFull limit)) None ≡ None → n ≤ limit
fits_at limit n true over none = absurd (let bad : ◌≡◌ {A = Option DeskFault} (Some (CellsFull limit)) None = none in cc)
fits_at limit n false within none = ltb-false limit n within

-- loads of keys that are not refused begin no more cells than there may be
keys_fit : (rules : Rules) (history : List Atom) (ks : List Key) → full rules history ks ≡ None → cells history + new_count history ks ≤ rules.limits.max_cells
keys_fit rules history ks none =
    fits_at rules.limits.max_cells (cells history + new_count history ks) (nat_lt rules.limits.max_cells (cells history + new_count history ks)) refl none

-- after loads that are not refused there are no more cells than there may be
pub loads_fit : (rules : Rules) (history : List Atom) (ks : List Key) (old : BatchBook) → StandsFor old history → refusal rules history (asked.LoadMany ks) ≡ None
    → old.cells + cells_begun (load_replies rules history ks) ≤ rules.limits.max_cells
loads_fit rules history ks old before none =
    let low = keys_fit rules history ks none in
    let same = new_count-replies rules history ks in
    let were = before.cells in
    omega arith

-- ---- a prime

-- a prime of a key that is held begins no cell
pub kept_count : (history : List Atom) (k : Key) (old new : BatchBook) → prime_reply history k ≡ Kept → StandsFor old history
    → StandsFor new (atom.Prime k (prime_reply history k) ∷ history) → new.cells ≡ old.cells
kept_count history k old new is before now = same_cells history (atom.Prime k (prime_reply history k)) old new (rw is refl) before now

-- a prime of a key that is not held begins one
pub primed_count : (history : List Atom) (k : Key) (c : ℕ) (old new : BatchBook) → prime_reply history k ≡ Primed c → StandsFor old history
    → StandsFor new (atom.Prime k (prime_reply history k) ∷ history) → new.cells ≡ old.cells + 1
primed_count history k c old new is before now =
    let count : cells (atom.Prime k (prime_reply history k) ∷ history) ≡ cells history + 1 = rw is refl in
    let were = before.cells in
    let are = now.cells in
    omega arith

primed_unheld : (history : List Atom) (c : ℕ) (o : Option ℕ) → prime_reply_at history o ≡ Primed c → o ≡ None
primed_unheld history c None is = refl
primed_unheld history c (Some d) is = absurd (let bad : Kept ≡ Primed c = is in cc)

-- after such a prime that is not refused there are no more cells than there may be
pub primed_fits : (rules : Rules) (history : List Atom) (k : Key) (c : ℕ) (old : BatchBook) → prime_reply history k ≡ Primed c → StandsFor old history
    → refusal rules history (asked.Prime k) ≡ None → old.cells + 1 ≤ rules.limits.max_cells
primed_fits rules history k c old is before none =
    let unheld : held history k ≡ None = primed_unheld history c (held history k) is in
    let one : new_count history (k ∷ []) ≡ 1 = rw unheld refl in
    let low = keys_fit rules history (k ∷ []) none in
    let were = before.cells in
    omega arith

-- ---- any call

-- a load alone begins as many as its reply says
one_begun : (r : LoadReply) → cells_begun (r ∷ []) ≡ begun_by r
one_begun r = let one = sum_by-cons begun_by r [] in omega arith

prime_begins : (k : Key) (old new : BatchBook) (h : List Atom) (r : DeskPrime) → prime_reply h k ≡ r → StandsFor old h
    → StandsFor new (atom.Prime k (prime_reply h k) ∷ h) → new.cells ≡ old.cells + begun_in (primed r)
prime_begins k old new h (prime.Primed c) is before now = primed_count h k c old new is before now
prime_begins k old new h prime.Kept is before now = let same = kept_count h k old new is before now in omega arith

-- a call begins as many cells as its reply says
pub begun_by_reply : (rules : Rules) (h : List Atom) (call : Call) (old new : BatchBook) → StandsFor old h → StandsFor new (after rules h (call_of call))
    → new.cells ≡ old.cells + begun_in (reply_to rules h call)
begun_by_reply rules h (Load k) old new before now =
    let many = loads_count rules h (k ∷ []) old new before now in
    let one = one_begun (load_reply rules h k) in
    omega arith
begun_by_reply rules h (LoadMany ks) old new before now = loads_count rules h ks old new before now
begun_by_reply rules h (Prime k o) old new before now = prime_begins k old new h (prime_reply h k) refl before now
begun_by_reply rules h call old new before now = let were = before.cells in let are = now.cells in omega arith

prime_fits : (rules : Rules) (h : List Atom) (k : Key) (old : BatchBook) (r : DeskPrime) → prime_reply h k ≡ r → StandsFor old h
    → desk.refusal rules h (asked.Prime k) ≡ None → old.cells ≤ rules.limits.max_cells → old.cells + begun_in (primed r) ≤ rules.limits.max_cells
prime_fits rules h k old (prime.Primed c) is before none fit = primed_fits rules h k c old is before none
prime_fits rules h k old prime.Kept is before none fit = omega arith

-- and where it is accepted there is room for them
pub reply_fits : (rules : Rules) (h : List Atom) (call : Call) (old : BatchBook) → StandsFor old h → desk.refusal rules h (call_of call) ≡ None
    → old.cells ≤ rules.limits.max_cells → old.cells + begun_in (reply_to rules h call) ≤ rules.limits.max_cells
reply_fits rules h (Load k) old before none fit =
    let many = loads_fit rules h (k ∷ []) old before none in
    let one = one_begun (load_reply rules h k) in
    omega arith
reply_fits rules h (LoadMany ks) old before none fit = loads_fit rules h ks old before none
reply_fits rules h (Prime k o) old before none fit = prime_fits rules h k old (prime_reply h k) refl before none fit
reply_fits rules h call old before none fit = omega arith

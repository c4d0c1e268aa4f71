-- In a history with no prime, a fresh load of the key began the cell with which a load of the key is replied.
use Rattle.std.proofs.Common.{◌≡◌, subst, ℕ, ◌<◌, ◌⊎◌, inl, inr, List, [], ◌∷◌, ◌++◌, length, Option, Some, None, slice_get}
use Rattle.dl_values.specs.Key.{Key}
use Rattle.dl_values.specs.Limits.{Rules}
use Rattle.dl_desk.specs.History.{Atom, load_reply, loaded}
use Rattle.dl_desk.specs.History as atom
use Rattle.dl_desk.specs.Events.{call_atoms, atoms}
use Rattle.dl_desk.specs.Calls.{after}
use Rattle.dl_desk.specs.declared.reply.LoadReply.{LoadReply}
use Rattle.dl_history.specs.Entries.{cell_of_load}
use Rattle.dl_desk.specs.Legal.{reply_to, call_of, IsNext}
use Rattle.dl_history.specs.History.{past, IsLegal}
use Rattle.dl_history.specs.Lists.{Every}
use Rattle.dl_desk.specs.Service.{Service}
use Rattle.dl_desk.specs.declared.event.Event.{Event}
use Rattle.dl_desk.specs.declared.event.Call.{Call}
use Rattle.dl_desk.specs.declared.event.Call.TheVariants.{Load, LoadMany, Prime}
use Rattle.dl_desk.specs.declared.event.Reply.{Reply}
use Rattle.dl_desk.specs.declared.event.Reply.TheVariants.{Loaded, Many}
use Rattle.dl_history.proofs.ListLemmas.{get-snoc}
use Rattle.dl_history.proofs.Pasts.{past-snoc, by_events, atoms_next}
use Rattle.dl_scope.specs.OwnAnswers.{IsNoPrime, NonePrimed}
use Rattle.dl_scope.proofs.LoadedCells.{LoadBegan, began_append, PrimesNone, replies_began}

-- ---- the atoms

-- what holds of each element of two lists in turn holds in each of them
pub every_parts : {X : Type 0} (P : X → Type 0) (xs ys : List X) → Every P (xs ++ ys) → Every P xs × Every P ys
every_parts P [] ys each = (tt, each)
every_parts P (x ∷ xs) ys each = let rest = every_parts P xs ys each.1 in ((each.0, rest.0), rest.1)

loaded_unprimed : (rules : Rules) (history : List Atom) (ks : List Key) → Every PrimesNone history → Every PrimesNone (loaded rules history ks)
loaded_unprimed rules history [] none = none
loaded_unprimed rules history (k ∷ ks) none = loaded_unprimed rules (atom.Load k (load_reply rules history k) ∷ history) ks (tt, none)

after_unprimed : (rules : Rules) (history : List Atom) (call : Call) → IsNoPrime call → Every PrimesNone history
    → Every PrimesNone (after rules history (call_of call))
after_unprimed rules history (LoadMany ks) now none = loaded_unprimed rules history ks none
after_unprimed rules history (Prime k o) now none = absurd now
after_unprimed rules history call now none = (tt, none)

-- where no event primes a key, no atom does
pub atoms_unprimed : (s : Service) (es : List Event) → IsLegal s es → NonePrimed es → Every PrimesNone (atoms (past es))
atoms_unprimed s es legal none = by_events s (λ (xs : List Event). NonePrimed xs → Every PrimesNone (atoms (past xs))) (λ each. tt) more es legal none
  where
    more : (xs : List Event) (e : Event) → IsLegal s xs → IsNext s (past xs) e → (NonePrimed xs → Every PrimesNone (atoms (past xs)))
        → NonePrimed (xs ++ e ∷ []) → Every PrimesNone (atoms (past (xs ++ e ∷ [])))
    more xs e before next rest each =
        let traces = every_parts (λ (x : Event). IsNoPrime x.call) xs (e ∷ []) each in
        rw (atoms_next s xs e next) (after_unprimed s.rules (atoms (past xs)) e.call traces.1.0 (rest traces.0))

-- ---- the loads

-- the keys that a call loads, in order
abbrev pub keys_loaded : Call → List Key
keys_loaded (Load k) = k ∷ []
keys_loaded (LoadMany ks) = ks
keys_loaded call = []

-- the replies to loads in the reply to a call, in order
abbrev pub replies_in : Reply → List LoadReply
replies_in (Loaded r) = r ∷ []
replies_in (Many rs) = rs
replies_in reply = []

no_key : (k : Key) → ◌≡◌ {A = Option Key} None (Some k) → ⊥
no_key k got = cc

call_began : (rules : Rules) (history : List Atom) (call : Call) (i : ℕ) (k : Key) (r : LoadReply) → Every PrimesNone history
    → slice_get (keys_loaded call) i ≡ Some k → slice_get (replies_in (reply_to rules history call)) i ≡ Some r
    → LoadBegan (after rules history (call_of call)) k (cell_of_load r)
call_began rules history (Load j) i k r none key reply = replies_began rules history (j ∷ []) i k r none key reply
call_began rules history (LoadMany ks) i k r none key reply = replies_began rules history ks i k r none key reply
call_began rules history call i k r none key reply = absurd (no_key k key)

-- a fresh load of the key began each cell with which a load of it was replied
abbrev LoadsBegan : List Event → Type 0
LoadsBegan es = (n : ℕ) (e : Event) → slice_get es n ≡ Some e → (i : ℕ) (k : Key) (r : LoadReply) → slice_get (keys_loaded e.call) i ≡ Some k
    → slice_get (replies_in e.reply) i ≡ Some r → LoadBegan (atoms (past es)) k (cell_of_load r)

loads_none : LoadsBegan []
loads_none n e got i k r key reply = absurd (let bad : ◌≡◌ {A = Option Event} None (Some e) = got in cc)

loads_more : (s : Service) (es : List Event) (e : Event) → IsNext s (past es) e → Every PrimesNone (atoms (past es)) → LoadsBegan es → LoadsBegan (es ++ e ∷ [])
loads_more s es e next none old n x got i k r key reply = by (get-snoc es e x n got)
  where
    by : ((n < length es) × (slice_get es n ≡ Some x)) ⊎ ((n ≡ length es) × (x ≡ e)) → LoadBegan (atoms (past (es ++ e ∷ []))) k (cell_of_load r)
    by (inl before) = rw (past-snoc es e)
        (began_append (call_atoms e.call e.reply) (atoms (past es)) k (cell_of_load r) (old n x before.1 i k r key reply))
    by (inr now) =
        let own_key : slice_get (keys_loaded e.call) i ≡ Some k = subst (λ (y : Event). slice_get (keys_loaded y.call) i ≡ Some k) now.1 key in
        let own_reply : slice_get (replies_in e.reply) i ≡ Some r = subst (λ (y : Event). slice_get (replies_in y.reply) i ≡ Some r) now.1 reply in
        let given : slice_get (replies_in (reply_to s.rules (atoms (past es)) e.call)) i ≡ Some r =
        subst (λ (y : Reply). slice_get (replies_in y) i ≡ Some r) next.reply own_reply in
        rw (atoms_next s es e next) (call_began s.rules (atoms (past es)) e.call i k r none own_key given)

-- in a legal history with no prime
pub loads_began : (s : Service) (es : List Event) → IsLegal s es → NonePrimed es → LoadsBegan es
loads_began s es legal none = by_events s (λ (xs : List Event). NonePrimed xs → LoadsBegan xs) (λ each. loads_none) more es legal none
  where
    more : (xs : List Event) (e : Event) → IsLegal s xs → IsNext s (past xs) e → (NonePrimed xs → LoadsBegan xs) → NonePrimed (xs ++ e ∷ [])
        → LoadsBegan (xs ++ e ∷ [])
    more xs e before next rest each =
        let traces = every_parts (λ (x : Event). IsNoPrime x.call) xs (e ∷ []) each in
        loads_more s xs e next (atoms_unprimed s xs before traces.0) (rest traces.0)

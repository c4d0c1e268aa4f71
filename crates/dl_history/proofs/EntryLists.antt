-- What holds of entries once there is one more.
use Rattle.std.proofs.Common.{◌≡◌, sym, subst, ℕ, ◌≤◌, max, List, [], ◌∷◌, ◌++◌, length, refl, arith, append_assoc}
use Rattle.std.proofs.lemmas.List.{append-nil}
use Rattle.dl_history.specs.Lists.{Among}
use Rattle.dl_history.specs.Entries.{PlacedEvent, Read, Entry, Called, Saw, calls_in, calls_of, entry_front, front_of, Ordered, answered, cells_in, cells_of, Answered}

pub calls_of-append : (xs ys : List Entry) → calls_of (xs ++ ys) ≡ calls_of xs ++ calls_of ys
calls_of-append [] ys = refl
calls_of-append (x ∷ xs) ys = rw (calls_of-append xs ys) (sym (append_assoc (calls_in x) (calls_of xs) (calls_of ys)))

pub cells_of-append : (xs ys : List Entry) → cells_of (xs ++ ys) ≡ cells_of xs ++ cells_of ys
cells_of-append [] ys = refl
cells_of-append (x ∷ xs) ys = rw (cells_of-append xs ys) (sym (append_assoc (cells_in x) (cells_of xs) (cells_of ys)))

-- no more calls than entries
pub calls_few : (xs : List Entry) → length (calls_of xs) ≤ length xs
calls_few [] = omega arith
calls_few (Called t ∷ xs) = let rest = calls_few xs in omega arith
calls_few (Saw r ∷ xs) = let rest = calls_few xs in omega arith

pub front_of-push : (xs : List Entry) (entry : Entry) → front_of (xs ++ entry ∷ []) ≡ max (front_of xs) (entry_front entry)
front_of-push [] entry = omega arith
front_of-push (x ∷ xs) entry = let rest = front_of-push xs entry in omega arith

pub ordered_call : (k : ℕ) (xs : List Entry) (t : PlacedEvent) → k ≤ t.at → front_of xs ≤ t.at → Ordered k xs → Ordered k (xs ++ Called t ∷ [])
ordered_call k [] t low past ordered = (low, tt)
ordered_call k (x ∷ xs) t low past ordered =
    (ordered.0, ordered_call (max k (entry_front x)) xs t (omega arith) (omega arith) ordered.1)

pub ordered_saw : (k : ℕ) (xs : List Entry) (r : Read) → Ordered k xs → Ordered k (xs ++ Saw r ∷ [])
ordered_saw k [] r ordered = (tt, tt)
ordered_saw k (x ∷ xs) r ordered = (ordered.0, ordered_saw (max k (entry_front x)) xs r ordered.1)

pub answered_call : (cs : List ℕ) (xs : List Entry) (t : PlacedEvent) → Answered cs xs → Answered cs (xs ++ Called t ∷ [])
answered_call cs [] t answered = (tt, tt)
answered_call cs (x ∷ xs) t answered = (answered.0, answered_call (cs ++ cells_in x) xs t answered.1)

pub answered_saw : (cs : List ℕ) (xs : List Entry) (r : Read) → Among r.cell (cs ++ cells_of xs) → Answered cs xs → Answered cs (xs ++ Saw r ∷ [])
answered_saw cs [] r among answered = let P : List ℕ → Type 0 = λ c. Among r.cell c in (subst P (append-nil cs) among, tt)
answered_saw cs (x ∷ xs) r among answered =
    let P : List ℕ → Type 0 = λ c. Among r.cell c in
    let there = subst P (sym (append_assoc cs (cells_in x) (cells_of xs))) among in
    (answered.0, answered_saw (cs ++ cells_in x) xs r there answered.1)

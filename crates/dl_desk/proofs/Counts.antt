-- How many cells loads of several keys begin, and so when they are refused.
use Rattle.std.proofs.Common.{◌≡◌, ◌∙◌, sym, ap, subst, ℕ, ◌+◌, ◌<◌, ◌≤◌, inl, inr, Bool, true, false, ◌||◌, cond, List, [], ◌∷◌, ◌++◌, Option, Some, None}
use Rattle.std.proofs.Common.{is_some, refl, arith}
use Rattle.std.specs.List.{list_any}
use Rattle.std.proofs.lemmas.Bool.{lt-ltb, le-ltb}
use Rattle.dl_values.specs.Key.{Key, key_eq}
use Rattle.dl_values.specs.Limits.{Rules}
use Rattle.dl_desk.specs.History.{Atom, Load, held, cells, room, load_reply, loaded, load_replies}
use Rattle.dl_desk.specs.declared.reply.LoadReply.{LoadReply}
use Rattle.dl_desk.specs.declared.reply.LoadReply.TheVariants.{Hit, Fresh}
use Rattle.dl_desk.specs.declared.fault.DeskFault.{DeskFault}
use Rattle.dl_desk.specs.declared.fault.DeskFault.TheVariants.{NoBatch, NotSent, SettledBefore, CellsFull, OutOfMemory}
use Rattle.dl_desk.specs.Calls.{new_count, full, IsRefusal}
use Rattle.dl_desk.specs.declared.call.DeskCall.TheVariants.{LoadMany}
use Rattle.dl_desk.specs.BatchBook.{BatchBook, StandsFor}
use Rattle.dl_desk.specs.Inside.Preparation.{RefusesStep}
use Rattle.dl_values.proofs.KeyLemmas.{key_eq-same}
use Rattle.dl_desk.proofs.HeldLemmas.{held-same, held-begun}

-- ---- one load more

-- the history after the load of a key, by whether the key is held
hit_is : (rules : Rules) (history : List Atom) (k : Key) (c : ℕ) → held history k ≡ Some c
    → Load k (load_reply rules history k) ∷ history ≡ Load k (Hit c) ∷ history
hit_is rules history k c is = rw is refl

fresh_is : (rules : Rules) (history : List Atom) (k : Key) → held history k ≡ None
    → Load k (load_reply rules history k) ∷ history ≡ Load k (Fresh (cells history) (room rules history k)) ∷ history
fresh_is rules history k is = rw is refl

-- ---- counts

count_same : (old new : List Atom) (ks : List Key) → ((q : Key) → held new q ≡ held old q) → new_count new ks ≡ new_count old ks
count_same old new [] same = refl
count_same old new (k ∷ ks) same = rw (same k, count_same old new ks same) refl

-- a key that is held from now on is counted no more
count_step : (b : Bool) (any any_q held_q : Bool) (old_rest new_rest : ℕ) → (b ≡ true → (held_q ≡ false) × (any_q ≡ any)) → old_rest ≡ new_rest + cond any 1 0
    → cond (held_q || any_q) 0 1 + old_rest ≡ cond ((b || held_q) || any_q) 0 1 + new_rest + cond (b || any) 1 0
count_step true true any_q held_q o n is rest = let p = is refl in rw (p.0, p.1) (omega arith)
count_step true false any_q held_q o n is rest = let p = is refl in rw (p.0, p.1) (omega arith)
count_step false any any_q held_q o n is rest = omega arith

count_fresh : (old new : List Atom) (k : Key) (ks : List Key) → is_some (held old k) ≡ false
    → ((q : Key) → is_some (held new q) ≡ (key_eq k q || is_some (held old q))) → new_count old ks ≡ new_count new ks + cond (list_any (key_eq k) ks) 1 0
count_fresh old new k [] none now = refl
count_fresh old new k (q ∷ qs) none now =
    let same : key_eq k q ≡ true → (is_some (held old q) ≡ false) × (list_any (key_eq q) qs ≡ list_any (key_eq k) qs) =
    λ is. let e : k ≡ q = key_eq-same k q is in (
      let P : Key → Type 0 = λ x. is_some (held old x) ≡ false in subst P e none,
      ap (λ (x : Key). list_any (key_eq x) qs) (sym e),
    ) in
    rw (now q)
    (count_step (key_eq k q) (list_any (key_eq k) qs) (list_any (key_eq q) qs) (is_some (held old q)) (new_count old qs) (new_count new qs) same
    (count_fresh old new k qs none now))

held_now : (t : Bool) (c : ℕ) (o : Option ℕ) → is_some (cond t (Some c) o) ≡ (t || is_some o)
held_now true c o = refl
held_now false c o = refl

-- loads of the keys begin as many cells as are counted
loaded_step : (rules : Rules) (history : List Atom) (k : Key) (ks : List Key) → ((h : List Atom) → cells (loaded rules h ks) ≡ cells h + new_count h ks)
    → (o : Option ℕ) → held history k ≡ o → cells (loaded rules (Load k (load_reply rules history k) ∷ history) ks) ≡ cells history + new_count history (k ∷ ks)
loaded_step rules history k ks rest (Some c) is =
    let next : List Atom = Load k (Hit c) ∷ history in
    let same : new_count next ks ≡ new_count history ks = count_same history next ks (λ q. held-same (Load k (Hit c)) history q refl (λ batch. refl)) in
    let all : cells (loaded rules next ks) ≡ cells history + new_count next ks = rest next in
    rw (hit_is rules history k c is, is) (let e = same in let a = all in omega arith)
loaded_step rules history k ks rest None is =
    let atom : Atom = Load k (Fresh (cells history) (room rules history k)) in
    let none : is_some (held history k) ≡ false = rw is refl in
    let now : (q : Key) → is_some (held (atom ∷ history) q) ≡ (key_eq k q || is_some (held history q)) =
    λ q. rw (held-begun atom history q (record { key = k; cell = cells history; batch = Some (room rules history k) }) refl (λ batch. refl))
    (held_now (key_eq k q) (cells history) (held history q)) in
    let count : new_count history ks ≡ new_count (atom ∷ history) ks + cond (list_any (key_eq k) ks) 1 0 = count_fresh history (atom ∷ history) k ks none now in
    let all : cells (loaded rules (atom ∷ history) ks) ≡ cells history + 1 + new_count (atom ∷ history) ks = rest (atom ∷ history) in
    rw (fresh_is rules history k is, is) (all ∙ by (list_any (key_eq k) ks) (new_count (atom ∷ history) ks) count)
  where
    by : (t : Bool) (n : ℕ) → new_count history ks ≡ n + cond t 1 0 → cells history + 1 + n ≡ cells history + (cond t 0 1 + new_count history ks)
    by true n e = omega arith
    by false n e = omega arith

pub cells-loaded : (rules : Rules) (history : List Atom) (ks : List Key) → cells (loaded rules history ks) ≡ cells history + new_count history ks
cells-loaded rules history [] = omega arith
cells-loaded rules history (k ∷ ks) = loaded_step rules history k ks (λ h. cells-loaded rules h ks) (held history k) refl

-- ---- parts of a list

pub loaded-append : (rules : Rules) (history : List Atom) (xs ys : List Key) → loaded rules history (xs ++ ys) ≡ loaded rules (loaded rules history xs) ys
loaded-append rules history [] ys = refl
loaded-append rules history (x ∷ xs) ys = loaded-append rules (Load x (load_reply rules history x) ∷ history) xs ys

pub load_replies-snoc : (rules : Rules) (history : List Atom) (xs : List Key) (k : Key)
    → load_replies rules history (xs ++ k ∷ []) ≡ load_replies rules history xs ++ load_reply rules (loaded rules history xs) k ∷ []
load_replies-snoc rules history [] k = refl
load_replies-snoc rules history (x ∷ xs) k = ap (λ (rs : List LoadReply). load_reply rules history x ∷ rs)
    (load_replies-snoc rules (Load x (load_reply rules history x) ∷ history) xs k)

-- ---- refusals

pub full-none : (rules : Rules) (history : List Atom) (ks : List Key) → cells (loaded rules history ks) ≤ rules.limits.max_cells → full rules history ks ≡ None
full-none rules history ks within =
    let low : cells history + new_count history ks ≤ rules.limits.max_cells = rw (cells-loaded rules history ks) at within in
    rw (le-ltb rules.limits.max_cells (cells history + new_count history ks) low) refl

pub full-some : (rules : Rules) (history : List Atom) (ks : List Key) → rules.limits.max_cells < cells (loaded rules history ks)
    → full rules history ks ≡ Some (CellsFull rules.limits.max_cells)
full-some rules history ks over =
    let high : rules.limits.max_cells < cells history + new_count history ks = rw (cells-loaded rules history ks) at over in
    rw (lt-ltb rules.limits.max_cells (cells history + new_count history ks) high) refl

cells-fresh : (rules : Rules) (history : List Atom) (k : Key) (rest : List Key) → held history k ≡ None
    → cells history + 1 ≤ cells (loaded rules history (k ∷ rest))
cells-fresh rules history k rest is =
    let next : List Atom = Load k (Fresh (cells history) (room rules history k)) ∷ history in
    let all : cells (loaded rules next rest) ≡ cells history + 1 + new_count next rest = cells-loaded rules next rest in
    rw (fresh_is rules history k is) (omega arith)

-- the load of a further key is refused, so the loads of the whole list are
pub refused_at : (rules : Rules) (history : List Atom) (xs : List Key) (k : Key) (rest : List Key) (book : BatchBook) (fault : DeskFault) → book.rules ≡ rules
    → StandsFor book (loaded rules history xs) → RefusesStep book k fault → IsRefusal rules history (LoadMany (xs ++ k ∷ rest)) fault
refused_at rules history xs k rest book (CellsFull limit) same stands refuses =
    let none : held (loaded rules history xs) k ≡ None = sym (stands.memo k) ∙ refuses.2 in
    let at_limit : cells (loaded rules history xs) ≡ rules.limits.max_cells = sym stands.cells ∙ (refuses.1 ∙ ap (λ (r : Rules). r.limits.max_cells) same) in
    let grows : cells (loaded rules history xs) + 1 ≤ cells (loaded rules (loaded rules history xs) (k ∷ rest)) =
    cells-fresh rules (loaded rules history xs) k rest none in
    let over : rules.limits.max_cells < cells (loaded rules history (xs ++ k ∷ rest)) = rw (loaded-append rules history xs (k ∷ rest)) (omega arith) in
    let limit_is : limit ≡ rules.limits.max_cells = refuses.0 ∙ ap (λ (r : Rules). r.limits.max_cells) same in
    inr (full-some rules history (xs ++ k ∷ rest) over ∙ ap (λ (n : ℕ). Some (CellsFull n)) (sym limit_is))
refused_at rules history xs k rest book OutOfMemory same stands refuses = inl refl
refused_at rules history xs k rest book NoBatch same stands refuses = absurd refuses
refused_at rules history xs k rest book NotSent same stands refuses = absurd refuses
refused_at rules history xs k rest book SettledBefore same stands refuses = absurd refuses

-- Two fresh loads of a key are apart.
use Rattle.std.proofs.Common.{◌≡◌, ◌∙◌, sym, ap, ℕ, Bool, true, false, cond, List, [], ◌∷◌, ◌++◌, Option, Some, None, refl}
use Rattle.std.specs.List.{list_any}
use Rattle.std.proofs.lemmas.Bool.{or_parts}
use Rattle.dl_values.specs.Key.{Key, key_eq}
use Rattle.dl_values.specs.Limits.{Rules}
use Rattle.dl_desk.specs.Laws.{FreshLoadsAreApart}
use Rattle.dl_desk.specs.History.{Atom, Load, Begun, begins, Latest, later, latest, latest_at, forgets, held, IsAnswered, AllAnswered}
use Rattle.dl_desk.specs.declared.reply.LoadReply.TheVariants.{Fresh}
use Rattle.dl_values.proofs.KeyLemmas.{key_eq-refl, key_eq-same}
use Rattle.dl_desk.proofs.Facts.{fresh_cell}
use Rattle.dl_desk.proofs.LawFacts.{answered_before}

-- the fresh load of the key, and the atoms after it
abbrev since : ℕ → ℕ → List Atom → Latest
since cell batch between = record { cell = cell; batch = Some batch; after = between }

-- while nothing forgets the key, its cell is held
held_since : (key : Key) (cell batch : ℕ) (between history : List Atom) → latest history key ≡ Some (since cell batch between)
    → list_any (forgets key (Some batch)) between ≡ false → held history key ≡ Some cell
held_since key cell batch between history is none = rw (is, none) refl

-- so no atom begins another
still_step : (rules : Rules) (key : Key) (cell batch : ℕ) (between history : List Atom) (a : Atom) (o : Option Begun) → IsAnswered rules history a
    → begins a ≡ o
    → latest history key ≡ Some (since cell batch between) → held history key ≡ Some cell
    → latest_at key o (later a (latest history key)) ≡ Some (since cell batch (a ∷ between))
still_step rules key cell batch between history a None answered is at holds = rw at refl
still_step rules key cell batch between history a (Some g) answered is at holds = by (key_eq g.key key) refl
  where
    by : (t : Bool) → key_eq g.key key ≡ t → cond t (Some (record { cell = g.cell; batch = g.batch; after = [] })) (later a (latest history key)) ≡ Some
        (since cell batch (a ∷ between))
    by true e =
        let none : held history g.key ≡ None = (fresh_cell rules history a g answered is).not_held in
        let same : g.key ≡ key = key_eq-same g.key key e in
        let both : ◌≡◌ {A = Option ℕ} None (Some cell) = sym none ∙ ap (held history) same ∙ holds in
        absurd (cc)
    by false e = rw at refl

still : (rules : Rules) (key : Key) (cell batch : ℕ) (between before : List Atom) → AllAnswered rules (between ++ Load key (Fresh cell batch) ∷ before)
    → list_any (forgets key (Some batch)) between ≡ false
    → latest (between ++ Load key (Fresh cell batch) ∷ before) key ≡ Some (since cell batch between)
still rules key cell batch [] before legal none = rw (key_eq-refl key) refl
still rules key cell batch (a ∷ between) before legal none =
    let history = between ++ Load key (Fresh cell batch) ∷ before in
    let parts = or_parts (forgets key (Some batch) a) (list_any (forgets key (Some batch)) between) none in
    let at = still rules key cell batch between before legal.1 parts.1 in
    still_step rules key cell batch between history a (begins a) legal.0 refl at (held_since key cell batch between history at parts.1)

-- a fresh load is of a key that isn't held
fresh_unheld : (rules : Rules) (history : List Atom) (key : Key) (cell batch : ℕ) → IsAnswered rules history (Load key (Fresh cell batch))
    → held history key ≡ None
fresh_unheld rules history key cell batch answered = (fresh_cell rules history (Load key (Fresh cell batch))
    (record { key = key; cell = cell; batch = Some batch }) answered refl).not_held

-- so a later fresh load finds that something forgot it
apart : (rules : Rules) (key : Key) (cell batch later_cell later_batch : ℕ) (between before : List Atom)
    → AllAnswered rules (Load key (Fresh later_cell later_batch) ∷ (between ++ Load key (Fresh cell batch) ∷ before)) → (t : Bool)
    → list_any (forgets key (Some batch)) between ≡ t → t ≡ true
apart rules key cell batch later_cell later_batch between before legal true none = refl
apart rules key cell batch later_cell later_batch between before legal false none =
    let history = between ++ Load key (Fresh cell batch) ∷ before in
    let holds = held_since key cell batch between history (still rules key cell batch between before legal.1 none) none in
    let both : ◌≡◌ {A = Option ℕ} None (Some cell) = sym (fresh_unheld rules history key later_cell later_batch legal.0) ∙ holds in
    absurd (cc)

pub fresh_loads_are_apart : FreshLoadsAreApart
fresh_loads_are_apart rules key cell batch later_cell later_batch later between before legal =
    let part = answered_before rules later (Load key (Fresh later_cell later_batch) ∷ (between ++ Load key (Fresh cell batch) ∷ before)) legal in
    apart rules key cell batch later_cell later_batch between before part (list_any (forgets key (Some batch)) between) refl

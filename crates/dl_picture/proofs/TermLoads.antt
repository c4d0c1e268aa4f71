-- Loads of terms, counted one after another.
use Rattle.std.proofs.Common.{◌≡◌, ◌∙◌, ap, sym, refl, ℕ, ◌+◌, ◌<◌, ◌≤◌, Bool, true, false, List, [], ◌∷◌, ◌++◌, length, map, drop, take}
use Rattle.std.proofs.Common.{get_or, Some, None, arith, append-nil, nat_eq, ◌&&◌}
use Rattle.std.specs.Prelude.{flat_map, is_some, if◌then◌else◌, slice_get, Vec}
use Rattle.std.specs.declared.alloc.Global.{Global}
use Rattle.std.proofs.lemmas.List.{drop_all, drop-drop, drop-map, drop_more, map-append, take_more}
use Rattle.std.proofs.lemmas.List.Concat.{flat_map-append}
use Rattle.indexmap.specs.IndexMap.{insert_entry}
use Rattle.dl_values.specs.Key.{Key, key_eq}
use Rattle.dl_desk.specs.declared.event.Event.{Event}
use Rattle.dl_desk.specs.declared.reply.LoadReply.{LoadReply}
use Rattle.dl_history.specs.Entries.{cell_of_load}
use Rattle.dl_terms.specs.TermAnswers.{answer}
use Rattle.dl_terms.specs.Tree.{Tree}
use Rattle.dl_terms.specs.View.{term_view}
use Rattle.dl_terms.specs.declared.term.Term.{Term}
use Rattle.dl_picture.proofs.EventCounts.{filter_next, filter_no, filter_yes, take_none}
use Rattle.dl_picture.specs.Numbers.{is_round, round_events}
use Rattle.dl_picture.specs.TermLoads.{Cells, known_by, loads_from, loads_in, rounds_after, term_loads, terms_loads, trees_of_terms, with_call, with_loads}

-- the first of what is left
pub left_is : {X : Type 0} (xs : List X) (i : ℕ) (x : X) → i < length xs → x ≡ get_or xs i x → drop i xs ≡ x ∷ drop (i + 1) xs
left_is xs i x lt is = drop_more xs i x lt ∙ ap (λ z. z ∷ drop (i + 1) xs) (sym is)

-- what is left after m and n more
pub passed_more : {X Y : Type 0} (f : X → Y) (xs : List X) (m n : ℕ) → map f (drop (m + n) xs) ≡ drop n (map f (drop m xs))
passed_more f xs m n = ap (map f) (sym (drop-drop n m xs)) ∙ sym (drop-map f n (drop m xs))

module _ (events : List Event) where
  -- ---- a term

  -- the term has its answer, and leaves the rounds from this one on
  pub has_answer : (t : Tree) (cells : Cells) (rounds : List Event) (n : ℕ) → n ≡ term_loads (known_by events cells) t
      → is_some (answer (known_by events cells) t) ≡ true → (n ≡ loads_in events t cells rounds) × (rounds ≡ rounds_after events t cells rounds)
  has_answer t cells [] n counts ends = (counts, refl)
  has_answer t cells (round ∷ rounds) n counts ends = (
    counts ∙ sym (ap (λ b. if b then term_loads (known_by events cells) t else loads_in events t (with_call cells round.call round.reply) rounds) ends),
    sym (ap (λ b. if b then round ∷ rounds else rounds_after events t (with_call cells round.call round.reply) rounds) ends),
  )

  -- the term waits, and reads a round
  pub reads_round : (t : Tree) (cells more : Cells) (round : Event) (rounds : List Event) → is_some (answer (known_by events cells) t) ≡ false
      → more ≡ with_call cells round.call round.reply
      → (loads_in events t cells (round ∷ rounds) ≡ loads_in events t more rounds) × (rounds_after events t cells (round ∷ rounds) ≡ rounds_after events t more rounds)
  reads_round t cells more round rounds waits read = (
    ap (λ b. if b then term_loads (known_by events cells) t else loads_in events t (with_call cells round.call round.reply) rounds) waits
        ∙ ap (λ c. loads_in events t c rounds) (sym read),
    ap (λ b. if b then round ∷ rounds else rounds_after events t (with_call cells round.call round.reply) rounds) waits
        ∙ ap (λ c. rounds_after events t c rounds) (sym read),
  )

  -- ---- one step of a term over its rounds

  module _ {X : Type 0} (f : X → Event) (xs : List X) (i : ℕ) (t : Tree) (cells : Cells) where
    -- the term waits, and reads the round x
    pub waits_on : (x : X) → i < length xs → x ≡ get_or xs i x → (more : Cells) → is_some (answer (known_by events cells) t) ≡ false
        → more ≡ with_call cells (f x).call (f x).reply
        → (loads_in events t cells (map f (drop i xs)) ≡ loads_in events t more (map f (drop (i + 1) xs)))
        × (rounds_after events t cells (map f (drop i xs)) ≡ rounds_after events t more (map f (drop (i + 1) xs)))
    waits_on x lt is more waits read =
        let front : map f (drop i xs) ≡ f x ∷ map f (drop (i + 1) xs) = ap (map f) (left_is xs i x lt is) in
        let step = reads_round t cells more (f x) (map f (drop (i + 1) xs)) waits read in
        (ap (loads_in events t cells) front ∙ step.0, ap (rounds_after events t cells) front ∙ step.1)

    -- the term has its answer before the round x
    pub ends_at : (n : ℕ) → n ≡ term_loads (known_by events cells) t → is_some (answer (known_by events cells) t) ≡ true
        → (n ≡ loads_in events t cells (map f (drop i xs))) × (drop i (map f xs) ≡ rounds_after events t cells (map f (drop i xs)))
    ends_at n counts ends =
        let step = has_answer t cells (map f (drop i xs)) n counts ends in
        (step.0, drop-map f i xs ∙ step.1)

    -- no round is left
    pub ends_last : (n k : ℕ) → n ≡ term_loads (known_by events cells) t → length xs ≤ i → length xs ≤ k
        → (n ≡ loads_in events t cells (map f (drop i xs))) × (drop k (map f xs) ≡ rounds_after events t cells (map f (drop i xs)))
    ends_last n k counts past end =
        let none : map f (drop i xs) ≡ [] = ap (map f) (drop_all i xs past) in (
          counts ∙ ap (loads_in events t cells) (sym none),
          drop-map f k xs ∙ (ap (map f) (drop_all k xs end) ∙ ap (rounds_after events t cells) (sym none)),
        )

  -- ---- terms

  pub terms_next : (xs : List Term) (i : ℕ) (x : Term) → i < length xs → x ≡ get_or xs i x → (rounds after : List Event) (so_far more sums total : ℕ)
      → so_far + terms_loads events (map term_view (drop i xs)) rounds ≡ total → more ≡ loads_in events (term_view x) [] rounds
      → after ≡ rounds_after events (term_view x) [] rounds → sums ≡ so_far + more
      → sums + terms_loads events (map term_view (drop (i + 1) xs)) after ≡ total
  terms_next xs i x lt is rounds after so_far more sums total held own left adds =
      let rest = map term_view (drop (i + 1) xs) in
      let step : terms_loads events (map term_view (drop i xs)) rounds
      ≡ loads_in events (term_view x) [] rounds + terms_loads events rest (rounds_after events (term_view x) [] rounds) =
      ap (λ ts. terms_loads events (map term_view ts) rounds) (left_is xs i x lt is) in
      let same : terms_loads events rest after ≡ terms_loads events rest (rounds_after events (term_view x) [] rounds) = ap (terms_loads events rest) left in
      omega (arith, step, same, held, own, adds)

  -- ---- plans

  pub plans_next : (xs : List (Vec Term Global)) (i : ℕ) (x : Vec Term Global) → i < length xs → x ≡ get_or xs i x → (caller after so_far more sums total : ℕ)
      → so_far + loads_from events caller (trees_of_terms (drop i xs)) ≡ total
      → more ≡ terms_loads events (map term_view x.items) (round_events caller events) → sums ≡ so_far + more → after ≡ caller + 1
      → sums + loads_from events after (trees_of_terms (drop (i + 1) xs)) ≡ total
  plans_next xs i x lt is caller after so_far more sums total held own adds next =
      let rest = trees_of_terms (drop (i + 1) xs) in
      let step : loads_from events caller (trees_of_terms (drop i xs))
      ≡ terms_loads events (map term_view x.items) (round_events caller events) + loads_from events (caller + 1) rest =
      ap (λ ts. loads_from events caller (trees_of_terms ts)) (left_is xs i x lt is) in
      let same : loads_from events after rest ≡ loads_from events (caller + 1) rest = ap (λ n. loads_from events n rest) next in
      omega (arith, step, same, held, own, adds)

-- ---- the rounds of a caller

-- one event more, which begins a round of the caller
pub rounds_more : (caller : ℕ) (events : List Event) (at : ℕ) (e : Event) (before after : List Event) → slice_get events at ≡ Some e
    → (nat_eq caller e.caller && is_round e.call) ≡ true → before ≡ round_events caller (take at events) → after ≡ before ++ e ∷ []
    → after ≡ round_events caller (take (at + 1) events)
rounds_more caller events at e before after is begins held pushed =
    let p : Event → Bool = λ (x : Event). nat_eq caller x.caller && is_round x.call in
    pushed
    ∙ (ap (λ es. es ++ e ∷ []) held
    ∙ (ap (λ es. round_events caller (take at events) ++ es) (sym (filter_yes p e begins)) ∙ sym (filter_next p events at e is)))

-- one event more, which doesn't
pub rounds_other : (caller : ℕ) (events : List Event) (at : ℕ) (e : Event) (before : List Event) → slice_get events at ≡ Some e
    → (nat_eq caller e.caller && is_round e.call) ≡ false → before ≡ round_events caller (take at events) → before ≡ round_events caller (take (at + 1) events)
rounds_other caller events at e before is other held =
    let p : Event → Bool = λ (x : Event). nat_eq caller x.caller && is_round x.call in
    held
    ∙ (sym (append-nil (round_events caller (take at events)))
    ∙ (ap (λ es. round_events caller (take at events) ++ es) (sym (filter_no p e other)) ∙ sym (filter_next p events at e is)))

-- no event more
pub rounds_end : (caller : ℕ) (events : List Event) (at : ℕ) (before : List Event) → slice_get events at ≡ None
    → before ≡ round_events caller (take at events) → before ≡ round_events caller (take (at + 1) events)
rounds_end caller events at before none held = held ∙ ap (round_events caller) (sym (take_none events at none))

-- ---- what a round reads

pub loads_step : (cells more : Cells) (ks : List Key) (rs : List LoadReply) (i : ℕ) (k : Key) (r : LoadReply) → i < length ks → k ≡ get_or ks i k
    → i < length rs → r ≡ get_or rs i r → more ≡ insert_entry key_eq cells k (cell_of_load r)
    → with_loads cells (drop i ks) (drop i rs) ≡ with_loads more (drop (i + 1) ks) (drop (i + 1) rs)
loads_step cells more ks rs i k r lt is below got read =
    let keys = drop (i + 1) ks in
    ap (λ zs. with_loads cells zs (drop i rs)) (left_is ks i k lt is)
    ∙ (ap (with_loads cells (k ∷ keys)) (left_is rs i r below got) ∙ ap (λ c. with_loads c keys (drop (i + 1) rs)) (sym read))

without_replies : (cells : Cells) (ks : List Key) → with_loads cells ks [] ≡ cells
without_replies cells [] = refl
without_replies cells (k ∷ ks) = refl

-- without a reply nothing more is read
pub loads_end : (cells : Cells) (ks : List Key) (rs : List LoadReply) (i : ℕ) → length rs ≤ i → with_loads cells (drop i ks) (drop i rs) ≡ cells
loads_end cells ks rs i past = ap (with_loads cells (drop i ks)) (drop_all i rs past) ∙ without_replies cells (drop i ks)

-- without a key too
pub keys_end : (cells : Cells) (ks : List Key) (rs : List LoadReply) (i : ℕ) → length ks ≤ i → with_loads cells (drop i ks) (drop i rs) ≡ cells
keys_end cells ks rs i past = ap (λ zs. with_loads cells zs (drop i rs)) (drop_all i ks past)

-- ---- copies

-- one item more, which f and g see alike
pub map_next : {X Y Z : Type 0} (f : X → Z) (g : Y → Z) (xs : List X) (i : ℕ) (x : X) → i < length xs → x ≡ get_or xs i x → (ys more : List Y) (y : Y)
    → more ≡ ys ++ y ∷ [] → map g ys ≡ map f (take i xs) → g y ≡ f x → map g more ≡ map f (take (i + 1) xs)
map_next f g xs i x lt is ys more y pushed held own =
    let front : map f (take (i + 1) xs) ≡ map f (take i xs) ++ f x ∷ [] =
    ap (map f) (take_more xs i x lt ∙ ap (λ z. take i xs ++ z ∷ []) (sym is)) ∙ map-append f (take i xs) (x ∷ []) in
    ap (map g) pushed
    ∙ (map-append g ys (y ∷ []) ∙ (ap (λ zs. zs ++ g y ∷ []) held ∙ (ap (λ z. map f (take i xs) ++ z ∷ []) own ∙ sym front)))

-- the items of one more
pub flat_next : {X Z : Type 0} (f : X → List Z) (xs : List X) (i : ℕ) (x : X) → i < length xs → x ≡ get_or xs i x → (so_far more : List Z)
    → so_far ≡ flat_map f (take i xs) → more ≡ so_far ++ f x → more ≡ flat_map f (take (i + 1) xs)
flat_next f xs i x lt is so_far more held added =
    let front : flat_map f (take (i + 1) xs) ≡ flat_map f (take i xs) ++ f x =
    ap (flat_map f) (take_more xs i x lt ∙ ap (λ z. take i xs ++ z ∷ []) (sym is))
    ∙ (flat_map-append f (take i xs) (x ∷ []) ∙ ap (λ zs. flat_map f (take i xs) ++ zs) (append-nil (f x))) in
    added ∙ (ap (λ zs. zs ++ f x) held ∙ sym front)

-- Loads and rounds of a history, counted one event after another.
use Rattle.std.proofs.Common.{◌≡◌, ◌∙◌, sym, ap, subst, refl, cond, ℕ, zero, suc, ◌+◌, Bool, true, false, List, [], ◌∷◌, ◌++◌, length, take, Option, Some, None}
use Rattle.std.proofs.Common.{append-nil, length-append, add-one, arith, filter, nat_eq, ◌&&◌, Result, Ok, Err}
use Rattle.std.specs.Prelude.{IfOk, slice_get}
use Rattle.std.proofs.lemmas.List.Concat.{flat_map-append}
use Rattle.std.proofs.lemmas.List.Elements.{filter-append}
use Rattle.dl_desk.specs.declared.reply.LoadReply.{LoadReply}
use Rattle.dl_history.specs.Lists.{one_if}
use Rattle.dl_desk.specs.declared.event.Event.{Event}
use Rattle.dl_history.proofs.ListLemmas.{take-get}
use Rattle.dl_picture.specs.Numbers.{AreLoadNumbers, events_by, is_by, is_round, load_replies, replies_in, round_events}
use Rattle.dl_picture.specs.declared.loads.LoadNumbers.{LoadNumbers}

-- ---- events

take_next : {X : Type 0} (xs : List X) (i : ℕ) (x : X) → slice_get xs i ≡ Some x → take (i + 1) xs ≡ take i xs ++ x ∷ []
take_next xs i x is = ap (λ n. take n xs) (add-one i) ∙ take-get xs i x is

take_past : {X : Type 0} (xs : List X) (i : ℕ) → slice_get xs i ≡ None → take (suc i) xs ≡ take i xs
take_past [] zero is = refl
take_past [] (suc i) is = refl
take_past {X} (x ∷ xs) zero is = absurd (let bad : ◌≡◌ {A = Option X} (Some x) None = is in cc)
take_past (x ∷ xs) (suc i) is = ap (λ zs. x ∷ zs) (take_past xs i is)

-- past the end nothing is taken
pub take_none : {X : Type 0} (xs : List X) (i : ℕ) → slice_get xs i ≡ None → take (i + 1) xs ≡ take i xs
take_none xs i is = ap (λ n. take n xs) (add-one i) ∙ take_past xs i is

pub filter_yes : {X : Type 0} (p : X → Bool) (x : X) → p x ≡ true → filter p (x ∷ []) ≡ x ∷ []
filter_yes p x holds = ap (λ b. cond b (x ∷ []) []) holds

pub filter_no : {X : Type 0} (p : X → Bool) (x : X) → p x ≡ false → filter p (x ∷ []) ≡ []
filter_no p x fails = ap (λ b. cond b (x ∷ []) []) fails

pub filter_next : {X : Type 0} (p : X → Bool) (xs : List X) (i : ℕ) (x : X) → slice_get xs i ≡ Some x
    → filter p (take (i + 1) xs) ≡ filter p (take i xs) ++ filter p (x ∷ [])
filter_next p xs i x is = ap (filter p) (take_next xs i x is) ∙ filter-append p (take i xs) (x ∷ [])

-- one event more, which is the caller's
own_event : (caller : Option ℕ) (events : List Event) (at : ℕ) (e : Event) (n m : LoadNumbers) → slice_get events at ≡ Some e → is_by caller e ≡ true
    → ((before : List LoadReply) → AreLoadNumbers before n → AreLoadNumbers (before ++ replies_in e.reply) m)
    → AreLoadNumbers (load_replies (events_by caller (take at events))) n → AreLoadNumbers (load_replies (events_by caller (take (at + 1) events))) m
own_event caller events at e n m is own more are =
    let so_far = events_by caller (take at events) in
    let by : events_by caller (take (at + 1) events) ≡ so_far ++ e ∷ [] =
    filter_next (is_by caller) events at e is ∙ ap (λ es. so_far ++ es) (filter_yes (is_by caller) e own) in
    let whole : load_replies (events_by caller (take (at + 1) events)) ≡ load_replies so_far ++ replies_in e.reply =
    ap load_replies by ∙ (flat_map-append (λ (x : Event). replies_in x.reply) so_far (e ∷ [])
    ∙ ap (λ rs. load_replies so_far ++ rs) (append-nil (replies_in e.reply))) in
    subst (λ rs. AreLoadNumbers rs m) (sym whole) (more (load_replies so_far) are)

-- the same of a sum that may fail, where the event is an option's copy
pub own_event_ok : {E : Type 0} (caller : Option ℕ) (copied : Option Event) (e : Event) (n : LoadNumbers) (sum : Result LoadNumbers E)
    → copied ≡ Some e → is_by caller e ≡ true
    → IfOk sum (λ more. (before : List LoadReply) → AreLoadNumbers before n → AreLoadNumbers (before ++ replies_in e.reply) more)
    → IfOk sum (λ more. (events : List Event) (at : ℕ) → copied ≡ slice_get events at → AreLoadNumbers (load_replies (events_by caller (take at events))) n
    → AreLoadNumbers (load_replies (events_by caller (take (at + 1) events))) more)
own_event_ok caller copied e n (Ok m) some own step = λ events at got are. own_event caller events at e n m (sym got ∙ some) own step are
own_event_ok caller copied e n (Err x) some own step = tt

-- one event more, which is another's
pub other_event : (caller : Option ℕ) (events : List Event) (at : ℕ) (e : Event) (n : LoadNumbers) → slice_get events at ≡ Some e → is_by caller e ≡ false
    → AreLoadNumbers (load_replies (events_by caller (take at events))) n → AreLoadNumbers (load_replies (events_by caller (take (at + 1) events))) n
other_event caller events at e n is other are =
    let so_far = events_by caller (take at events) in
    let by : events_by caller (take (at + 1) events) ≡ so_far =
    filter_next (is_by caller) events at e is ∙ (ap (λ es. so_far ++ es) (filter_no (is_by caller) e other) ∙ append-nil so_far) in
    subst (λ es. AreLoadNumbers (load_replies es) n) (sym by) are

-- no event more
pub no_event : (caller : Option ℕ) (events : List Event) (at : ℕ) (n : LoadNumbers) → slice_get events at ≡ None
    → AreLoadNumbers (load_replies (events_by caller (take at events))) n → AreLoadNumbers (load_replies (events_by caller (take (at + 1) events))) n
no_event caller events at n is are = subst (λ es. AreLoadNumbers (load_replies (events_by caller es)) n) (sym (take_none events at is)) are

-- ---- rounds

length_one : {X : Type 0} (p : X → Bool) (x : X) → length (filter p (x ∷ [])) ≡ one_if (p x)
length_one {X} p x = by (p x)
  where
    by : (b : Bool) → length (cond b (x ∷ []) []) ≡ one_if b
    by true = refl
    by false = refl

-- how many pass a test, with one more
test_next : {X : Type 0} (p : X → Bool) (xs : List X) (i : ℕ) (x : X) → slice_get xs i ≡ Some x
    → length (filter p (take (i + 1) xs)) ≡ length (filter p (take i xs)) + one_if (p x)
test_next p xs i x is =
    ap length (filter_next p xs i x is)
    ∙ (length-append (filter p (take i xs)) (filter p (x ∷ [])) ∙ ap (λ k. length (filter p (take i xs)) + k) (length_one p x))

-- one event more, which begins a round of the caller or doesn't
pub round_next : (caller : ℕ) (events : List Event) (at : ℕ) (e : Event) (begins : Bool) → slice_get events at ≡ Some e
    → (nat_eq caller e.caller && is_round e.call) ≡ begins
    → length (round_events caller (take (at + 1) events)) ≡ length (round_events caller (take at events)) + one_if begins
round_next caller events at e begins is same =
    test_next (λ (x : Event). nat_eq caller x.caller && is_round x.call) events at e is
    ∙ ap (λ b. length (round_events caller (take at events)) + one_if b) same

-- no event more
pub round_none : (caller : ℕ) (events : List Event) (at : ℕ) → slice_get events at ≡ None
    → length (round_events caller (take (at + 1) events)) ≡ length (round_events caller (take at events)) + 0
round_none caller events at is =
    let same : length (round_events caller (take (at + 1) events)) ≡ length (round_events caller (take at events)) =
    ap (λ es. length (round_events caller es)) (take_none events at is) in
    omega (arith, same)

-- ---- all events

-- where no caller is named, all events are meant
pub all_events : (events : List Event) → events_by None events ≡ events
all_events [] = refl
all_events (e ∷ events) = ap (λ es. e ∷ es) (all_events events)

-- The tables that answer a plan file: what they find, and what they answer key by key.
use Rattle.std.proofs.Common.{◌≡◌, ℕ, ◌+◌, ◌<◌, List, [], ◌∷◌, ◌++◌, Bool, true, false, cond, ◌||◌, Option, Some, None, Result, Ok, Err}
use Rattle.std.proofs.Common.{ap, sym, subst, refl, ◌∙◌, take, drop, length, get_or, bytes_eq, true≢false, append_assoc, String}
use Rattle.std.specs.HashSet.{HashSet, contains_text}
use Rattle.std.specs.List.{list_any}
use Rattle.std.specs.Map.{lookup}
use Rattle.std.specs.Option.{IfSome, option_or}
use Rattle.std.specs.Result.{IfOk}
use Rattle.std.specs.declared.alloc.Global.{Global}
use Rattle.std.proofs.lemmas.Option.{IfSome_then}
use Rattle.std.proofs.lemmas.List.{drop_more, take_more, map-append}
use Rattle.dl_values.specs.Key.{Key}
use Rattle.dl_values.specs.TableLimits.{lists}
use Rattle.dl_values.specs.declared.outcome.Outcome.{Outcome}
use Rattle.dl_values.specs.declared.outcome.Outcome.TheVariants.{Value, KeyError}
use Rattle.dl_values.specs.declared.outcome.BatchAnswer.{BatchAnswer}
use Rattle.dl_values.specs.declared.outcome.BatchAnswer.TheVariants as batch
use Rattle.dl_source.specs.Answer.{found, found_in, outcome_of, break_of, first_break, outcomes_of, unless, answer_of}
use Rattle.dl_source.specs.Tables.{Table, Tables}
use Rattle.dl_source.specs.declared.tables.Finding.{Finding}
use Rattle.dl_source.specs.declared.tables.Finding.TheVariants.{Row, Error, Break}
use Rattle.dl_plans.specs.JoinedTables.{joined, AreNames}

-- ---- what is found

front_at : {X : Type 0} (b any : Bool) (x : X) (all front : Option X) → (b || any) ≡ true → (any ≡ true → all ≡ front)
    → cond b (Some x) all ≡ cond b (Some x) front
front_at true any x all front h rest = refl
front_at false any x all front h rest = rest h

-- what the first list has is found there
lookup-front : {X : Type 0} (p : List ℕ → Bool) (xs ys : List (List ℕ × X)) → list_any (λ e. p e.0) xs ≡ true → lookup p (xs ++ ys) ≡ lookup p xs
lookup-front p [] ys h = absurd (true≢false (sym h))
lookup-front p (x ∷ xs) ys h = front_at (p x.0) (list_any (λ e. p e.0) xs) x.1 (lookup p (xs ++ ys)) (lookup p xs) h (lookup-front p xs ys)

back_at : {X : Type 0} (b any : Bool) (x : X) (all back : Option X) → (b || any) ≡ false → (any ≡ false → all ≡ back) → cond b (Some x) all ≡ back
back_at true any x all back h rest = absurd (true≢false h)
back_at false any x all back h rest = rest h

-- and what it doesn't have is found in the second
lookup-back : {X : Type 0} (p : List ℕ → Bool) (xs ys : List (List ℕ × X)) → list_any (λ e. p e.0) xs ≡ false → lookup p (xs ++ ys) ≡ lookup p ys
lookup-back p [] ys h = refl
lookup-back p (x ∷ xs) ys h = back_at (p x.0) (list_any (λ e. p e.0) xs) x.1 (lookup p (xs ++ ys)) (lookup p ys) h (lookup-back p xs ys)

module _ (own : Tables) (k : Key) where
  -- a key of a table of the plan file
  pub found_own : (database : Option Tables) → IfSome database (λ _. lists k.table own ≡ true) → found (joined own database) k ≡ found own k
  found_own None h = refl
  found_own (Some database) h = ap (λ (t : Option Table). found_in t k.id) (lookup-front (bytes_eq k.table) own database h)

  -- and any other
  pub found_database : (database : Tables) → lists k.table own ≡ false → found (own ++ database) k ≡ found database k
  found_database database h = ap (λ (t : Option Table). found_in t k.id) (lookup-back (bytes_eq k.table) own database h)

module _ {S : Type 0} (tables own : Tables) (names : HashSet (String Global) S) (k : Key) (table : List ℕ) (at : table ≡ k.table) where
  -- the plan file has the table of the key
  pub own_finds : (database : Option Tables) → joined own database ≡ tables → IfSome database (λ _. AreNames names own) → contains_text names table ≡ true
      → found tables k ≡ found own k
  own_finds database all named there =
      sym (ap (λ (ts : Tables). found ts k) all)
      ∙ found_own own k database (IfSome_then database named (λ _ are. sym (are k.table) ∙ ap (contains_text names) (sym at) ∙ there))

  -- it doesn't have it
  pub database_finds : (database : Tables) (o : Option Tables) → o ≡ Some database → joined own o ≡ tables → IfSome o (λ _. AreNames names own)
      → contains_text names table ≡ false → found tables k ≡ found database k
  database_finds database o is all named missing =
      let are : AreNames names own = subst (λ (p : Option Tables). IfSome p (λ _. AreNames names own)) is named in
      sym (ap (λ (ts : Tables). found ts k) all)
      ∙ ap (λ (p : Option Tables). found (joined own p) k) is
      ∙ found_database own k database (sym (are k.table) ∙ ap (contains_text names) (sym at) ∙ missing)

-- ---- the answer to one key

-- the answer to a key alone, by what is found under it
abbrev pub answer_by : Result Finding (List ℕ) → BatchAnswer
answer_by r = unless (option_or (break_of r) None) (outcome_of r ∷ [])

-- tables answer a key alone as these do that find the same
pub answers_alone : {E : Type 0} (r : Result BatchAnswer E) (tables source : Tables) (k : Key) (keys : List Key) → keys ≡ k ∷ []
    → found tables k ≡ found source k → IfOk r (λ a. answer_of source keys ≡ a) → IfOk r (λ a. answer_of tables (k ∷ []) ≡ a)
answers_alone (Ok a) tables source k keys is same h = ap answer_by same ∙ sym (ap (answer_of source) is) ∙ h
answers_alone (Err e) tables source k keys is same h = tt

pub breaks_alone : (r : Result Finding (List ℕ)) (text : List ℕ) → answer_by r ≡ batch.Break text → break_of r ≡ Some text
breaks_alone (Ok (Row v)) text h = absurd (let bad : batch.Each (Value v ∷ []) ≡ batch.Break text = h in cc)
breaks_alone (Ok (Error t)) text h = absurd (let bad : batch.Each (KeyError t ∷ []) ≡ batch.Break text = h in cc)
breaks_alone (Ok (Break t)) text h = let is : batch.Break t ≡ batch.Break text = h in cc
breaks_alone (Err t) text h = absurd (let bad : batch.Each (KeyError t ∷ []) ≡ batch.Break text = h in cc)

pub settles_alone : (r : Result Finding (List ℕ)) (os : List Outcome) → answer_by r ≡ batch.Each os → (break_of r ≡ None) × (os ≡ outcome_of r ∷ [])
settles_alone (Ok (Row v)) os h = let is : batch.Each (Value v ∷ []) ≡ batch.Each os = h in (refl, cc)
settles_alone (Ok (Error t)) os h = let is : batch.Each (KeyError t ∷ []) ≡ batch.Each os = h in (refl, cc)
settles_alone (Ok (Break t)) os h = absurd (let bad : batch.Break t ≡ batch.Each os = h in cc)
settles_alone (Err t) os h = let is : batch.Each (KeyError t ∷ []) ≡ batch.Each os = h in (refl, cc)

-- ---- key by key

module _ (tables : Tables) (keys : List Key) (i : ℕ) (k : Key) (lt : i < length keys) (is : k ≡ get_or keys i k) where
  breaks_here : first_break tables (drop i keys) ≡ option_or (break_of (found tables k)) (first_break tables (drop (i + 1) keys))
  breaks_here =
      ap (first_break tables) (drop_more keys i k lt)
      ∙ ap (λ (j : Key). option_or (break_of (found tables j)) (first_break tables (drop (i + 1) keys))) (sym is)

  -- the key breaks, and none before it does
  pub broken_at : (text : List ℕ) → first_break tables (drop i keys) ≡ first_break tables keys → answer_of tables (k ∷ []) ≡ batch.Break text
      → Some text ≡ first_break tables keys
  broken_at text so_far answer =
      sym (ap (λ (b : Option (List ℕ)). option_or b (first_break tables (drop (i + 1) keys))) (breaks_alone (found tables k) text answer))
      ∙ sym breaks_here ∙ so_far

  module _ (os : List Outcome) (answer : answer_of tables (k ∷ []) ≡ batch.Each os) where
    -- the key doesn't break
    pub unbroken_at : first_break tables (drop i keys) ≡ first_break tables keys → first_break tables (drop (i + 1) keys) ≡ first_break tables keys
    unbroken_at so_far =
        sym (ap (λ (b : Option (List ℕ)). option_or b (first_break tables (drop (i + 1) keys))) (settles_alone (found tables k) os answer).0)
        ∙ sym breaks_here ∙ so_far

    -- its outcome comes behind those before it
    pub added_at : (start before : List Outcome) → before ≡ start ++ outcomes_of tables (take i keys)
        → before ++ os ≡ start ++ outcomes_of tables (take (i + 1) keys)
    added_at start before so_far =
        let front = outcomes_of tables (take i keys) in
        let own : os ≡ outcomes_of tables (k ∷ []) = (settles_alone (found tables k) os answer).1 in
        let both : front ++ os ≡ outcomes_of tables (take i keys ++ k ∷ []) =
        ap (λ (l : List Outcome). front ++ l) own ∙ sym (map-append (λ (j : Key). outcome_of (found tables j)) (take i keys) (k ∷ [])) in
        let next : take i keys ++ k ∷ [] ≡ take (i + 1) keys = sym (take_more keys i k lt ∙ ap (λ (j : Key). take i keys ++ j ∷ []) (sym is)) in
        ap (λ (l : List Outcome). l ++ os) so_far
        ∙ append_assoc start front os
        ∙ ap (λ (l : List Outcome). start ++ l) (both ∙ ap (outcomes_of tables) next)

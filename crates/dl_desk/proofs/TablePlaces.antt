-- What is told of tables in places, once a place is added or changed.
use Rattle.std.proofs.Common.{◌≡◌, ◌∙◌, sym, ap, ℕ, zero, suc, ◌<◌, List, [], ◌∷◌, ◌++◌, length, get_or, set, Bool, true, false, cond, true≢false, Some, None}
use Rattle.std.proofs.Common.{IsSome, inl, inr, subst, bytes_eq, refl}
use Rattle.std.specs.Map.{lookup}
use Rattle.std.proofs.lemmas.Bool.{cases_eq, cases_lt}
use Rattle.std.proofs.lemmas.List.{get_or-set_same, get_or-set_other, get_or_past, get_or_read, set-get_or}
use Rattle.dl_values.proofs.Names.{bytes_eq-same}
use Rattle.dl_desk.specs.declared.table_book.Newest.{Newest}
use Rattle.dl_desk.specs.Inside.TableName.{place_of}
use Rattle.dl_desk.specs.Inside.TableMap.{Tells, told_in}

get-added : (places : List (List (List ℕ × Newest))) (i : ℕ) → get_or (places ++ [] ∷ []) i [] ≡ get_or places i []
get-added [] zero = refl
get-added [] (suc i) = refl
get-added (p ∷ places) zero = refl
get-added (p ∷ places) (suc i) = get-added places i

-- a place where nothing is told
pub told-added : (places : List (List (List ℕ × Newest))) (q : List ℕ) → told_in (places ++ [] ∷ []) q ≡ told_in places q
told-added places q = ap (lookup (bytes_eq q)) (get-added places (place_of q))

-- where something is told of a table, its place is there
pub place_low : (places : List (List (List ℕ × Newest))) (table : List ℕ) → IsSome (told_in places table) → place_of table < length places
place_low places table some = elim (cases_lt (place_of table) (length places)) [
  | inl low ↦ low
  | inr high ↦
      let none : told_in places table ≡ None = ap (lookup (bytes_eq table)) (get_or_past places (place_of table) [] high) in
      let bad : ◌≡◌ {A = Bool} false true = rw none at some in
      absurd (true≢false (sym bad))
]

others : (places : List (List (List ℕ × Newest))) (table q : List ℕ) (e : Newest) → (place_of q ≡ place_of table → ⊥)
    → (t : Bool) → bytes_eq table q ≡ t → told_in places q ≡ cond t (Some e) (told_in places q)
others places table q e apart true same = absurd (apart (ap place_of (sym (bytes_eq-same table q same))))
others places table q e apart false not = refl

-- the place of the table is changed
told-set : (places : List (List (List ℕ × Newest))) (table : List ℕ) (e : Newest) (place : List (List ℕ × Newest)) → place_of table < length places
    → Tells (get_or places (place_of table) []) table e place
    → (q : List ℕ) → told_in (set places (place_of table) place) q ≡ cond (bytes_eq table q) (Some e) (told_in places q)
told-set places table e place low tells q = elim (cases_eq (place_of q) (place_of table)) [
  | inl here ↦
      let new : get_or (set places (place_of table) place) (place_of q) [] ≡ place =
      ap (λ (i : ℕ). get_or (set places (place_of table) place) i []) here ∙ get_or-set_same places (place_of table) place [] low in
      ap (lookup (bytes_eq q)) new ∙ (tells q ∙ ap (λ (i : ℕ). cond (bytes_eq table q) (Some e) (lookup (bytes_eq q) (get_or places i []))) (sym here))
  | inr apart ↦ ap (lookup (bytes_eq q)) (get_or-set_other places (place_of table) (place_of q) place [] apart)
      ∙ others places table q e apart (bytes_eq table q) refl
]

module _ (places : List (List (List ℕ × Newest))) (table : List ℕ) (i : ℕ) (x : List (List ℕ × Newest)) (read : x ≡ get_or places i x) where
  -- what is told once the table's place tells something else of it
  pub told-changed : (e : Newest) (place : List (List ℕ × Newest)) → i ≡ place_of table → place_of table < length places → Tells x table e place
      → (q : List ℕ) → told_in (set places i place) q ≡ cond (bytes_eq table q) (Some e) (told_in places q)
  told-changed e place is low tells q =
      let here : i < length places = subst (λ (j : ℕ). j < length places) (sym is) low in
      let at : x ≡ get_or places (place_of table) [] = get_or_read places i x here read [] ∙ ap (λ (j : ℕ). get_or places j []) is in
      subst (λ (j : ℕ). told_in (set places j place) q ≡ cond (bytes_eq table q) (Some e) (told_in places q)) (sym is)
      (told-set places table e place low (subst (λ (p : List (List ℕ × Newest)). Tells p table e place) at tells) q)

  -- and where it stays
  pub told-kept : (q : List ℕ) → told_in (set places i x) q ≡ told_in places q
  told-kept q = ap (λ (ps : List (List (List ℕ × Newest))). told_in ps q) (ap (set places i) read ∙ set-get_or places i x)

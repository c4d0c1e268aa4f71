-- The least of the batches that were given up, one event after another.
use Rattle.std.proofs.Common.{◌≡◌, ◌∙◌, sym, ap, subst, ℕ, ◌+◌, ◌<◌, ◌≤◌, min, ◌⊎◌, inl, inr, List, [], ◌∷◌, ◌++◌, length, take, Option, Some, None}
use Rattle.std.proofs.Common.{refl, arith, append-nil, zero, suc, add-one}
use Rattle.std.specs.Prelude.{flat_map, slice_get}
use Rattle.std.proofs.lemmas.Bool.{cases_lt}
use Rattle.std.proofs.lemmas.List.Concat.{flat_map-append}
use Rattle.dl_history.specs.Lists.{Among}
use Rattle.dl_desk.specs.declared.event.Event.{Event}
use Rattle.dl_history.proofs.ListLemmas.{among_longer, every_append, every_weaker}
use Rattle.dl_history.proofs.ListLemmas.{get-append_at, take-get}
use Rattle.dl_loader.specs.CloseRefusals.{IsLeastOf}
use Rattle.dl_workers.specs.GiveUps.{given_up, given_up_by}

-- the lesser of what was found and one more
pub least_lesser : (ns : List ℕ) (n c : ℕ) → IsLeastOf (Some n) ns → IsLeastOf (Some (min n c)) (ns ++ c ∷ [])
least_lesser ns n c found = (
  by (cases_lt c n),
  every_append (λ m. min n c ≤ m) ns (c ∷ []) (every_weaker (λ m. n ≤ m) (λ m. min n c ≤ m) ns (λ m low. omega arith) found.1)
      (omega arith, tt),
)
  where
    by : (c < n) ⊎ (n ≤ c) → Among (min n c) (ns ++ c ∷ [])
    by (inl less) = let same : min n c ≡ c = omega arith in rw same (length ns, get-append_at ns c [])
    by (inr more) = let same : min n c ≡ n = omega arith in rw same (among_longer n ns (c ∷ []) found.0)

-- one event more
pub least_event : (events : List Event) (i : ℕ) (e : Event) (found now : Option ℕ) → slice_get events i ≡ Some e
    → IsLeastOf found (given_up (take i events)) → ((ns : List ℕ) → IsLeastOf found ns → IsLeastOf now (ns ++ given_up_by e.call))
    → IsLeastOf now (given_up (take (i + 1) events))
least_event events i e found now is least more =
    let by : Event → List ℕ = λ x. given_up_by x.call in
    let whole : given_up (take (i + 1) events) ≡ given_up (take i events) ++ (given_up_by e.call ++ []) =
    ap (λ n. given_up (take n events)) (add-one i) ∙ (ap (flat_map by) (take-get events i e is) ∙ flat_map-append by (take i events) (e ∷ [])) in
    let one : given_up (take i events) ++ (given_up_by e.call ++ []) ≡ given_up (take i events) ++ given_up_by e.call =
    ap (λ ns. given_up (take i events) ++ ns) (append-nil (given_up_by e.call)) in
    subst (IsLeastOf now) (sym (whole ∙ one)) (more (given_up (take i events)) least)

past_all : {X : Type 0} (xs : List X) (i : ℕ) → slice_get xs i ≡ None → take (suc i) xs ≡ take i xs
past_all [] zero is = refl
past_all [] (suc i) is = refl
past_all {X} (x ∷ xs) zero is = absurd (let bad : ◌≡◌ {A = Option X} (Some x) None = is in cc)
past_all (x ∷ xs) (suc i) is = ap (λ zs. x ∷ zs) (past_all xs i is)

-- no event more
pub least_past : (events : List Event) (i : ℕ) (found : Option ℕ) → slice_get events i ≡ None → IsLeastOf found (given_up (take i events))
    → IsLeastOf found (given_up (take (i + 1) events))
least_past events i found is least =
    let same : take (i + 1) events ≡ take i events = ap (λ n. take n events) (add-one i) ∙ past_all events i is in
    subst (λ es. IsLeastOf found (given_up es)) (sym same) least

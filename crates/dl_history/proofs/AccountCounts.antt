-- There are as many accounts as callers.
use Rattle.std.proofs.Common.{◌≡◌, ◌∙◌, sym, ℕ, zero, suc, ◌+◌, ◌<◌, ◌≤◌, ◌⊎◌, inl, inr, true, false, List, [], ◌∷◌, length, nat_eq, nat_lt, refl, arith}
use Rattle.std.proofs.lemmas.Bool.{cases_lt, cases_eq}
use Rattle.std.proofs.lemmas.Bool.Decides.{nat_tests}
use Rattle.std.proofs.lemmas.List.Sums.{sum_by-cons}
use Rattle.dl_history.specs.Agreement.{Account, accounts_by, HasEach}
use Rattle.dl_history.specs.Lists.{Every, one_if}

-- how many of the accounts are of callers below a number
abbrev accounts_below : ℕ → List Account → ℕ
accounts_below n [] = 0
accounts_below n (a ∷ accounts) = one_if (nat_lt a.caller n) + accounts_below n accounts

one_below : (c n : ℕ) → one_if (nat_lt c (suc n)) ≡ one_if (nat_lt c n) + one_if (nat_eq n c)
one_below c n = by (cases_lt c n) (cases_eq n c)
  where
    by : (c < n) ⊎ (n ≤ c) → (n ≡ c) ⊎ (n ≡ c → ⊥) → one_if (nat_lt c (suc n)) ≡ one_if (nat_lt c n) + one_if (nat_eq n c)
    by (inl less) same =
        let now : nat_lt c (suc n) ≡ true = grind (arith, nat_tests) in
        let before : nat_lt c n ≡ true = grind (arith, nat_tests) in
        let other : nat_eq n c ≡ false = grind (arith, nat_tests) in
        rw (now, before, other) (omega arith)
    by (inr more) (inl same) =
        let now : nat_lt c (suc n) ≡ true = grind (arith, nat_tests) in
        let before : nat_lt c n ≡ false = grind (arith, nat_tests) in
        let own : nat_eq n c ≡ true = grind (arith, nat_tests) in
        rw (now, before, own) (omega arith)
    by (inr more) (inr apart) =
        let now : nat_lt c (suc n) ≡ false = grind (arith, nat_tests) in
        let before : nat_lt c n ≡ false = grind (arith, nat_tests) in
        let other : nat_eq n c ≡ false = grind (arith, nat_tests) in
        rw (now, before, other) (omega arith)

below_more : (n : ℕ) (accounts : List Account) → accounts_below (suc n) accounts ≡ accounts_below n accounts + accounts_by n accounts
below_more n [] = refl
below_more n (a ∷ accounts) =
    let rest = below_more n accounts in
    let one = one_below a.caller n in
    let by = sum_by-cons (λ (b : Account). one_if (nat_eq n b.caller)) a accounts in
    omega arith

below_each : (n m : ℕ) (accounts : List Account) → HasEach n accounts → m ≤ n → accounts_below m accounts ≡ m
below_each n zero accounts each low = none accounts
  where
    none : (others : List Account) → accounts_below 0 others ≡ 0
    none [] = refl
    none (a ∷ others) = let rest = none others in let zero_low : nat_lt a.caller 0 ≡ false = grind (arith, nat_tests) in rw zero_low (omega arith)
below_each n (suc m) accounts each low =
    let rest = below_each n m accounts each (omega arith) in
    let one = each m (omega arith) in
    let more = below_more m accounts in
    omega arith

below_all : (n : ℕ) (accounts : List Account) → Every (λ a. a.caller < n) accounts → accounts_below n accounts ≡ length accounts
below_all n [] every = refl
below_all n (a ∷ accounts) every =
    let rest = below_all n accounts every.1 in
    let low = every.0 in
    let below : nat_lt a.caller n ≡ true = grind (arith, nat_tests) in
    rw below (omega arith)

-- where each caller has one account and each account is a caller's, there are as many
pub accounts_count : (n : ℕ) (accounts : List Account) → HasEach n accounts → Every (λ a. a.caller < n) accounts → length accounts ≡ n
accounts_count n accounts each every = sym (below_all n accounts every) ∙ below_each n n accounts each (omega arith)

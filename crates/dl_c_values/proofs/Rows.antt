-- The jobs of a dispatch stand in a row.
use Rattle.std.proofs.Common.{◌≡◌, ℕ, zero, suc, ◌+◌, ◌-◌, ◌<◌, List, [], ◌∷◌, ◌++◌}
use Rattle.std.proofs.Common.{length, Option, Some, None, slice_get, refl, ap, sym, ◌∙◌, subst, length-append, arith}
use Rattle.dl_desk.specs.History.{Atom, job, jobs, jobs_from, begun, sent}
use Rattle.dl_values.specs.declared.job.Job.{Job}
use Rattle.dl_c_values.specs.declared.answers.Dispatched.{Dispatched}
use Rattle.dl_c_values.specs.Answers.{first_of, sent_as}

first_of-append : (xs ys : List Job) → 0 < length xs → first_of (xs ++ ys) ≡ first_of xs
first_of-append [] ys some = absurd (omega (arith, some))
first_of-append (x ∷ xs) ys some = refl

length-jobs_from : (history : List Atom) (b n : ℕ) → length (jobs_from history b n) ≡ n
length-jobs_from history b zero = refl
length-jobs_from history b (suc n) =
    let one : length (jobs_from history b n ++ job history (b + n) ∷ []) ≡ length (jobs_from history b n) + 1 = length-append (jobs_from history b n)
    (job history (b + n) ∷ []) in
    omega (arith, one, length-jobs_from history b n)

first_of-jobs_from : (history : List Atom) (b n : ℕ) → first_of (jobs_from history b (suc n)) ≡ b
first_of-jobs_from history b zero = omega arith
first_of-jobs_from history b (suc n) =
    first_of-append (jobs_from history b (suc n)) (job history (b + suc n) ∷ []) (omega (arith, length-jobs_from history b (suc n)))
    ∙ first_of-jobs_from history b n

row : (history : List Atom) (b n : ℕ) → jobs_from history b n ≡ jobs_from history (first_of (jobs_from history b n)) (length (jobs_from history b n))
row history b zero = refl
row history b (suc n) =
    ap (λ (m : ℕ). jobs_from history b m) (sym (length-jobs_from history b (suc n)))
    ∙ ap (λ (c : ℕ). jobs_from history c (length (jobs_from history b (suc n)))) (sym (first_of-jobs_from history b n))

pub jobs_in_a_row : (history : List Atom) → jobs history ≡ jobs_from history (first_of (jobs history)) (length (jobs history))
jobs_in_a_row history = row history (sent history) (begun history - sent history)

pub sent_in_a_row : (history : List Atom) (js : List Job) (answer : Dispatched) → answer ≡ sent_as js → js ≡ jobs history
    → jobs history ≡ jobs_from history answer.first answer.count
sent_in_a_row history js answer is told =
    subst (λ (a : Dispatched). jobs history ≡ jobs_from history a.first a.count) (sym (is ∙ ap sent_as told)) (jobs_in_a_row history)

pub first_of_some : (js : List Job) (j : Job) → slice_get js 0 ≡ Some j → first_of js ≡ j.batch
first_of_some [] j is = absurd (let bad : ◌≡◌ {A = Option Job} None (Some j) = is in cc)
first_of_some (x ∷ js) j is = let same : ◌≡◌ {A = Option Job} (Some x) (Some j) = is in let equal : x ≡ j = cc in ap (λ (y : Job). y.batch) equal

pub first_of_none : (js : List Job) → slice_get js 0 ≡ None → first_of js ≡ 0
first_of_none [] is = refl
first_of_none (x ∷ js) is = absurd (let bad : ◌≡◌ {A = Option Job} (Some x) None = is in cc)

-- The jobs among items: the end marks dropped.
use Rattle.std.proofs.Common.{◌≡◌, Bool, true, false, List, [], ◌∷◌, ◌++◌, cond, length, sym, refl, ap, ◌∙◌, count_by, flat_map, arith}
use Rattle.std.proofs.lemmas.List.Sums.{sum_by-cons}
use Rattle.dl_values.specs.declared.job.Job.{Job}
use Rattle.dl_workers.specs.Bag.{EachAsOften}
use Rattle.dl_workers.specs.LosslessRule.{jobs}
use Rattle.dl_workers.specs.declared.rule.Item.{Item}
use Rattle.dl_workers.specs.declared.rule.Item.TheVariants.{Work, End}

-- the jobs of two lists in a row
pub jobs-append : (xs ys : List Item) → jobs (xs ++ ys) ≡ jobs xs ++ jobs ys
jobs-append [] ys = refl
jobs-append (Work job ∷ xs) ys = ap (λ (rest : List Job). job ∷ rest) (jobs-append xs ys)
jobs-append (End ∷ xs) ys = jobs-append xs ys

-- the jobs of many lists in a row
pub jobs-flat_map : {A : Type 0} (items : A → List Item) (xs : List A) → jobs (flat_map items xs) ≡ flat_map (λ x. jobs (items x)) xs
jobs-flat_map items [] = refl
jobs-flat_map items (x ∷ xs) = jobs-append (items x) (flat_map items xs) ∙ ap (λ (rest : List Job). jobs (items x) ++ rest) (jobs-flat_map items xs)

-- a test of jobs, which end marks fail
abbrev on_job : (Job → Bool) → Item → Bool
on_job test (Work job) = test job
on_job test End = false

count_by-jobs : (test : Job → Bool) (xs : List Item) → count_by test (jobs xs) ≡ count_by (on_job test) xs
count_by-jobs test [] = refl
count_by-jobs test (Work job ∷ xs) =
    let rest = count_by-jobs test xs in
    omega (arith, sum_by-cons (λ (j : Job). cond (test j) 1 0) job (jobs xs), sum_by-cons (λ (i : Item). cond (on_job test i) 1 0) (Work job) xs)
count_by-jobs test (End ∷ xs) =
    let rest = count_by-jobs test xs in
    omega (arith, sum_by-cons (λ (i : Item). cond (on_job test i) 1 0) End xs)

-- where the items are each as often, so are the jobs
pub EachAsOften-jobs : (xs ys : List Item) → EachAsOften xs ys → EachAsOften (jobs xs) (jobs ys)
EachAsOften-jobs xs ys same test = count_by-jobs test xs ∙ same (on_job test) ∙ sym (count_by-jobs test ys)

module _ {A : Type 0} where
  count_by-all : (xs : List A) → count_by (λ _. true) xs ≡ length xs
  count_by-all [] = refl
  count_by-all (x ∷ xs) = let rest = count_by-all xs in omega (arith, sum_by-cons (λ (_ : A). 1) x xs)

  -- lists with the same elements are of one length
  pub EachAsOften-length : (xs ys : List A) → EachAsOften xs ys → length xs ≡ length ys
  EachAsOften-length xs ys same = sym (count_by-all xs) ∙ same (λ _. true) ∙ count_by-all ys

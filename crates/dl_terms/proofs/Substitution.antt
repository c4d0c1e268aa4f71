-- A body with an item answers and waits as the tree with the item in its place.
use Rattle.std.proofs.Common.{◌≡◌, ap, refl, ◌+◌, ◌++◌, Option, Some}
use Rattle.std.specs.Prelude.{max}
use Rattle.std.specs.Option.{option_map, option_and_then}
use Rattle.serde_json.specs.Data.{Data, Items, no_items, item}
use Rattle.dl_values.specs.Key.{Key}
use Rattle.dl_values.specs.declared.outcome.Outcome.{Outcome}
use Rattle.dl_terms.specs.Tree.{Tree, ended, load, pick, follow, each, all, over, the_item, named, Trees, no_trees, tree, depth_of, depth_of_all, height_of}
use Rattle.dl_terms.specs.Tree.{height_of_all, with_item, with_item_all, copies}
use Rattle.dl_terms.specs.TermAnswers.{picked, gathered, assembled, both, waits_after, target_in, target_answer, target_waits, targets_in, targets_answer}
use Rattle.dl_terms.specs.TermAnswers.{targets_waits, Listed, listed, copy_answers, copies_answer, copy_waits, copies_wait, answer_at, answers_at, answer, answers}
use Rattle.dl_terms.specs.TermAnswers.{waits_at, all_wait_at, waits, all_wait}
use Rattle.dl_terms.specs.Laws.{SubstitutionHolds, OverIsAll, CopiesAreAsDeep, all_copies}

module _ (known : Key → Option Outcome) where
  mutual
    given : (d : Data) (t : Tree) → answer_at known (Some d) t ≡ answer known (with_item d t)
    given d (ended a) = refl
    given d (load k) = refl
    given d (pick t field) = ap (option_map (picked field)) (given d t)
    given d (follow t field table) = ap (option_and_then (λ a. target_answer known (target_in table (picked field a)))) (given d t)
    given d (each t field table) = ap (option_and_then (λ a. targets_answer known (targets_in table (picked field a)))) (given d t)
    given d (all ts) = ap (option_map gathered) (all_given d ts)
    given d (over t body) = ap (option_and_then (λ a. copies_answer (λ e. answer_at known (Some e) body) (listed a))) (given d t)
    given d the_item = refl
    given d (named names ts) = ap (option_map (assembled names)) (all_given d ts)

    all_given : (d : Data) (ts : Trees) → answers_at known (Some d) ts ≡ answers known (with_item_all d ts)
    all_given d no_trees = refl
    all_given d (tree t ts) = λ j. both (given d t j) (all_given d ts j)

  mutual
    waiting : (d : Data) (t : Tree) → waits_at known (Some d) t ≡ waits known (with_item d t)
    waiting d (ended a) = refl
    waiting d (load k) = refl
    waiting d (pick t field) = waiting d t
    waiting d (follow t field table) = λ j. waiting d t j ++ waits_after (given d t j) (λ a. target_waits known (target_in table (picked field a)))
    waiting d (each t field table) = λ j. waiting d t j ++ waits_after (given d t j) (λ a. targets_waits known (targets_in table (picked field a)))
    waiting d (all ts) = all_waiting d ts
    waiting d (over t body) =
        λ j. waiting d t j ++ waits_after (given d t j) (λ a. copies_wait (λ e. waits_at known (Some e) body) (listed a))
    waiting d the_item = refl
    waiting d (named names ts) = all_waiting d ts

    all_waiting : (d : Data) (ts : Trees) → all_wait_at known (Some d) ts ≡ all_wait known (with_item_all d ts)
    all_waiting d no_trees = refl
    all_waiting d (tree t ts) = λ j. waiting d t j ++ all_waiting d ts j

  pub substituted : SubstitutionHolds known
  substituted = record { given = given; waiting = waiting }

  -- ---- the copies together

  pub copies_given : (body : Tree) (ds : Items) → copy_answers (λ d. answer_at known (Some d) body) ds ≡ answers known (copies body ds)
  copies_given body no_items = refl
  copies_given body (item d ds) = λ j. both (given d body j) (copies_given body ds j)

  copies_waiting : (body : Tree) (ds : Items) → copy_waits (λ d. waits_at known (Some d) body) ds ≡ all_wait known (copies body ds)
  copies_waiting body no_items = refl
  copies_waiting body (item d ds) = λ j. waiting d body j ++ copies_waiting body ds j

  all_copies_given : (body : Tree) (x : Listed) → copies_answer (λ d. answer_at known (Some d) body) x ≡ answer known (all_copies body x)
  all_copies_given body (Listed.items ds) = ap (option_map gathered) (copies_given body ds)
  all_copies_given body (Listed.none f) = refl

  all_copies_waiting : (body : Tree) (x : Listed) → copies_wait (λ d. waits_at known (Some d) body) x ≡ waits known (all_copies body x)
  all_copies_waiting body (Listed.items ds) = copies_waiting body ds
  all_copies_waiting body (Listed.none f) = refl

  pub over_is_all : OverIsAll known
  over_is_all = record {
    given = λ t body j. option_and_then (λ a. all_copies_given body (listed a) j) (answer known t);
    waiting = λ t body j. waits known t ++ waits_after (answer known t) (λ a. all_copies_waiting body (listed a) j);
  }

mutual
  deep : (d : Data) (t : Tree) → depth_of (with_item d t) ≡ depth_of t
  deep d (ended a) = refl
  deep d (load k) = refl
  deep d (pick t field) = deep d t
  deep d (follow t field table) = ap (λ n. n + 1) (deep d t)
  deep d (each t field table) = ap (λ n. n + 1) (deep d t)
  deep d (all ts) = all_deep d ts
  deep d (over t body) = ap (λ n. n + depth_of body) (deep d t)
  deep d the_item = refl
  deep d (named names ts) = all_deep d ts

  all_deep : (d : Data) (ts : Trees) → depth_of_all (with_item_all d ts) ≡ depth_of_all ts
  all_deep d no_trees = refl
  all_deep d (tree t ts) = λ j. max (deep d t j) (all_deep d ts j)

mutual
  high : (d : Data) (t : Tree) → height_of (with_item d t) ≡ height_of t
  high d (ended a) = refl
  high d (load k) = refl
  high d (pick t field) = ap (λ n. n + 1) (high d t)
  high d (follow t field table) = ap (λ n. n + 1) (high d t)
  high d (each t field table) = ap (λ n. n + 1) (high d t)
  high d (all ts) = ap (λ n. n + 1) (all_high d ts)
  high d (over t body) = ap (λ n. max n (height_of body) + 1) (high d t)
  high d the_item = refl
  high d (named names ts) = ap (λ n. n + 1) (all_high d ts)

  all_high : (d : Data) (ts : Trees) → height_of_all (with_item_all d ts) ≡ height_of_all ts
  all_high d no_trees = refl
  all_high d (tree t ts) = λ j. max (high d t j) (all_high d ts j)

pub as_deep : CopiesAreAsDeep
as_deep = record { deep = deep; high = high }

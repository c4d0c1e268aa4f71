use Rattle.std.proofs.Common.{rules, arith, ◌≡◌, ◌⊎◌, ◌<◌, ◌≤◌, ◌==◌, ℕ, length, map, Bool, true, false, Err, inl, inr, refl, sym, ap, Some, ◌∙◌}
use Rattle.std.proofs.lemmas.Bool.Decides.{nat_tests}
use Rattle.serde_json.specs.View.{view, items_of}
use Rattle.std.proofs.lemmas.List.{length-map}
use Rattle.dl_terms.specs.Plans.{ArePlans}
use Rattle.dl_documents.specs.Inside.Top.{top_data}
use Rattle.dl_documents.specs.Inside.Trees.{tree_data, list_data}
use Rattle.dl_documents.specs.Faults.{HasOtherCount, HasNoPlan}
use Rattle.dl_documents.specs.Inside.PlanFiles.{HasLists, row_tree, rows_view}
use Rattle.dl_documents.proofs.TreeLists.{list_data_is, items_len-list_data, get_item-list_data}
use Rattle.dl_documents.proofs.plan_files.lists_and_tables.Goals as goal

not_empty : (n : ℕ) → 1 ≤ n → (n == 0) ≡ true → ⊥
not_empty n low e = grind (arith, nat_tests)

-- a number that is 0 or above 16 isn't one of plans
not_plans : (n : ℕ) (b : Bool) → b ≡ (n == 0) → (b ≡ true) ⊎ ((b ≡ false) × (16 < n)) → ArePlans n → ⊥
not_plans n b e (inl empty) are = not_empty n are.least (sym e ∙ empty)
not_plans n b e (inr long) are = let many : 16 < n = long.1 in let most : n ≤ 16 = are.most in omega arith

plans_count : (n : ℕ) → (n == 0) ≡ false → n ≤ 16 → ArePlans n
plans_count n some few = record { least = grind (arith, nat_tests); most = few }

pub returns-then-is_empty-clause-err : goal.returns-then-is_empty-clause-err
returns-then-is_empty-clause-err c =
    let plans = c.in-Some.plans.items in
    let there : HasLists (top_data c.args.top) (list_data plans) (view c.in-Some.tables) = search rules in
    inr (
      refl,
      HasOtherCount (list_data plans) c.requires.kind there.list
          (rw items_len-list_data (not_plans (length plans) c.is_empty.result (search rules) (search rules))),
    )

pub returns-in_err-lists-clause-err : goal.returns-in_err-lists-clause-err
returns-in_err-lists-clause-err c =
    let plans = c.in-Some.plans.items in
    let there : HasLists (top_data c.args.top) (list_data plans) (view c.in-Some.tables) = search rules in
    let same : c.from_residual.result ≡ Err c.in_err-lists.field-0.0 = search rules in
    rw same (elim c.in_err-lists.ensures.err [
      | inl memory ↦ inl memory
      | inr bad ↦ inr (
        bad.0,
        HasNoPlan (list_data plans) bad.1.0 bad.1.1 c.requires.kind there.list (get_item-list_data plans bad.1.0 ∙ bad.1.2) bad.1.3,
      )
    ])

pub returns-in_default-clause-err : goal.returns-in_default-clause-err
returns-in_default-clause-err c = inr (refl, c.in_default.ensures)

pub returns-clause-ok : goal.returns-clause-ok
returns-clause-ok c =
    let plans = c.in-Some.plans.items in
    let there : HasLists (top_data c.args.top) (list_data plans) (view c.in-Some.tables) = search rules in
    let rows : map tree_data plans ≡ map row_tree (rows_view c.in_ok-lists.lists.items) = search rules in
    let size : length plans ≡ length (rows_view c.in_ok-lists.lists.items) = sym (length-map plans tree_data) ∙ (ap length rows ∙ length-map _ row_tree) in
    let some : c.is_empty.result ≡ false = search rules in
    let counted : c.is_empty.result ≡ (length plans == 0) = search rules in
    let few : length plans ≤ 16 = search rules in
    let count : ArePlans (length plans) = plans_count (length plans) (sym counted ∙ some) few in
    record {
      list = there.list ∙ ap (λ ds. Some ds) (list_data_is plans ∙ ap items_of rows);
      count = rw (← size) count;
      tables = there.tables;
    }

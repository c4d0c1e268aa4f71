-- The text of a list of values, one by one, and that of a report.
use Rattle.std.proofs.Common.{◌≡◌, ◌∙◌, ap, sym, refl, append_assoc, ℕ, ◌+◌, ◌<◌, Bool, true, false, List, [], ◌∷◌, ◌++◌, codes, map, drop, length, get_or}
use Rattle.std.proofs.lemmas.List.{drop_more}
use Rattle.std.specs.Prelude.{Vec}
use Rattle.std.specs.declared.alloc.Global.{Global}
use Rattle.json.specs.Print.{escape_byte}
use Rattle.serde_json.specs.Data.{Data}
use Rattle.serde_json.specs.View.{items_of}
use Rattle.serde_json.specs.Written.{comma_if, compact_text, items_text}
use Rattle.dl_haxl.specs.declared.step_answers.StepAnswer.{StepAnswer}
use Rattle.dl_scope.specs.Report.{Report}
use Rattle.dl_server.specs.AnswerJson.{answers_tree, report_json, rounds_tree}

-- ---- one step of a loop over values

pub front_of : {A : Type 0} (xs : List A) (i : ℕ) (x : A) → i < length xs → x ≡ get_or xs i x → drop i xs ≡ x ∷ drop (i + 1) xs
front_of xs i x low is = drop_more xs i x low ∙ ap (λ z. z ∷ drop (i + 1) xs) (sym is)

module _ {A : Type 0} (tree : A → Data) (xs : List A) (i : ℕ) (x : A) (front : drop i xs ≡ x ∷ drop (i + 1) xs) where
  -- what stands before a value, and then the value, come off the text of the rest
  pub text_next : (later : Bool) (now marked next whole : List ℕ) → now ++ items_text later (items_of (map tree (drop i xs))) ≡ whole
      → marked ≡ now ++ comma_if later → next ≡ marked ++ compact_text (tree x) → next ++ items_text true (items_of (map tree (drop (i + 1) xs))) ≡ whole
  text_next later now marked next whole so_far with_mark written =
      let rest = items_text true (items_of (map tree (drop (i + 1) xs))) in
      ap (λ t. t ++ rest) written
      ∙ (append_assoc marked (compact_text (tree x)) rest
      ∙ (ap (λ t. t ++ (compact_text (tree x) ++ rest)) with_mark
      ∙ (append_assoc now (comma_if later) (compact_text (tree x) ++ rest)
      ∙ (ap (λ ys. now ++ items_text later (items_of (map tree ys))) (sym front) ∙ so_far))))

-- ---- the plans of a report

-- what the terms of a plan answer, as a vector holds it
abbrev pub plan_tree : Vec StepAnswer Global → Data
plan_tree answers = answers_tree answers.items

plan_trees : (xs : List (Vec StepAnswer Global)) → map plan_tree xs ≡ map answers_tree (map (λ a. a.items) xs)
plan_trees [] = refl
plan_trees (x ∷ xs) = ap (λ ds. plan_tree x ∷ ds) (plan_trees xs)

-- what is written behind the list of the answers
joined : (head items now mark second rounds third end whole : List ℕ) → now ++ 93 ∷ [] ≡ head ++ items → second ≡ now ++ 93 ∷ mark → third ≡ second ++ rounds
    → whole ≡ third ++ end → whole ≡ head ++ (items ++ (mark ++ (rounds ++ end)))
joined head items now mark second rounds third end whole closed marked counted ended =
    let front : second ≡ head ++ (items ++ mark) =
    marked ∙ (sym (append_assoc now (93 ∷ []) mark) ∙ (ap (λ t. t ++ mark) closed ∙ append_assoc head items mark)) in
    let all : whole ≡ ((head ++ (items ++ mark)) ++ rounds) ++ end = ended ∙ ap (λ t. t ++ end) (counted ∙ ap (λ t. t ++ rounds) front) in
    all
    ∙ (append_assoc (head ++ (items ++ mark)) rounds end
    ∙ (append_assoc head (items ++ mark) (rounds ++ end) ∙ ap (λ t. head ++ t) (append_assoc items mark (rounds ++ end))))

-- the text of a report, once the list of its answers is closed
pub report_written : (r : Report) (xs : List (Vec StepAnswer Global)) (now second third whole : List ℕ) → map (λ a. a.items) xs ≡ r.answers
    → now ++ 93 ∷ [] ≡ codes "{\"answers\":[" ++ items_text false (items_of (map plan_tree xs)) → second ≡ now ++ codes "],\"rounds\":"
    → third ≡ second ++ compact_text (rounds_tree r.rounds) → whole ≡ third ++ codes "}" → whole ≡ report_json r
unfolding escape_byte
report_written r xs now second third whole same closed marked counted ended =
    let head = codes "{\"answers\":[" in
    let mark = codes ",\"rounds\":" in
    let rounds = compact_text (rounds_tree r.rounds) in
    let end = codes "}" in
    joined head (items_text false (items_of (map plan_tree xs))) now mark second rounds third end whole closed marked counted ended
    ∙ ap (λ ds. head ++ (items_text false (items_of ds) ++ (mark ++ (rounds ++ end)))) (plan_trees xs ∙ ap (map answers_tree) same)

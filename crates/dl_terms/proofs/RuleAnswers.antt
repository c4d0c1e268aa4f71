-- What is computed of a term is what its rules give.
use Rattle.std.proofs.Common.{◌≡◌, ◌∙◌, ap, sym, List, [], ◌∷◌, Option, Some, None}
use Rattle.std.specs.Option.{option_map, option_and_then}
use Rattle.serde_json.specs.Data.{Data, Items, no_items, item}
use Rattle.dl_values.specs.Key.{Key}
use Rattle.dl_terms.specs.declared.answer.Answer.{Answer}
use Rattle.dl_terms.specs.declared.answer.Answer.TheVariants.{Fault}
use Rattle.dl_terms.specs.Tree.{Tree, ended, load, pick, follow, each, all, over, the_item, named, Trees, no_trees, tree}
use Rattle.dl_terms.specs.TermAnswers.{Pairs, outcome_in, loaded, picked, gathered, both, load_answer, Target, target_in, target_answer, target_answers, Targets}
use Rattle.dl_terms.specs.TermAnswers.{targets_in, targets_answer, Listed, listed, copy_answers, copies_answer, item_answer, assembled, answer_at, answers_at, answer}
use Rattle.dl_terms.specs.Relation.{EachCopyGives, CopiesGive, LoadGives, TargetGives, EachTargetGives, TargetsGive, GivesAt, EachGivesAt, Gives}
use Rattle.dl_terms.proofs.Options.{some_same, from_map, from_and_then, from_both}

module _ (Copy : Data → Answer → Type 0) (f : Data → Option Answer) where
  each_copy_to : ((d : Data) (b : Answer) → Copy d b → f d ≡ Some b) → (ds : Items) (ls : List Answer) → EachCopyGives Copy ds ls → copy_answers f ds ≡ Some ls
  each_copy_to to no_items ls e = ap Some (sym e)
  each_copy_to to (item d ds) ls (a, rest, g, h, e) =
      ap (λ o. both o (copy_answers f ds)) (to d a g) ∙ (ap (option_map (λ l. a ∷ l)) (each_copy_to to ds rest h) ∙ ap Some (sym e))

  copies_to : ((d : Data) (b : Answer) → Copy d b → f d ≡ Some b) → (x : Listed) (b : Answer) → CopiesGive Copy x b → copies_answer f x ≡ Some b
  copies_to to (Listed.items ds) b (ls, g, e) = ap (option_map gathered) (each_copy_to to ds ls g) ∙ ap Some (sym e)
  copies_to to (Listed.none fault) b g = ap Some (sym g)

  each_copy_from : ((d : Data) (b : Answer) → f d ≡ Some b → Copy d b) → (ds : Items) (ls : List Answer) → copy_answers f ds ≡ Some ls → EachCopyGives Copy ds ls
  each_copy_from from no_items ls e = some_same ls [] (sym e)
  each_copy_from from (item d ds) ls e =
      let g = from_both (f d) (copy_answers f ds) ls e in
      (g.0, g.1, from d g.0 g.2, each_copy_from from ds g.1 g.3, g.4)

  copies_from : ((d : Data) (b : Answer) → f d ≡ Some b → Copy d b) → (x : Listed) (b : Answer) → copies_answer f x ≡ Some b → CopiesGive Copy x b
  copies_from from (Listed.items ds) b e =
      let g = from_map gathered (copy_answers f ds) b e in
      (g.0, each_copy_from from ds g.0 g.1, g.2)
  copies_from from (Listed.none fault) b e = some_same b (Fault fault) (sym e)

module _ (ps : Pairs) where
  load_to : (k : Key) (b : Answer) → LoadGives ps k b → load_answer (outcome_in ps) k ≡ Some b
  load_to k b (o, e, f) = ap (option_map (loaded k)) e ∙ ap Some (sym f)

  target_to : (x : Target) (b : Answer) → TargetGives ps x b → target_answer (outcome_in ps) x ≡ Some b
  target_to (Target.key k) b g = load_to k b g
  target_to (Target.none f) b g = ap Some (sym g)

  each_to : (xs : List Target) (ls : List Answer) → EachTargetGives ps xs ls → target_answers (outcome_in ps) xs ≡ Some ls
  each_to [] ls e = ap Some (sym e)
  each_to (x ∷ xs) ls (a, rest, g, h, e) =
      ap (λ o. both o (target_answers (outcome_in ps) xs)) (target_to x a g) ∙ (ap (option_map (λ l. a ∷ l)) (each_to xs rest h) ∙ ap Some (sym e))

  targets_to : (x : Targets) (b : Answer) → TargetsGive ps x b → targets_answer (outcome_in ps) x ≡ Some b
  targets_to (Targets.keys xs) b (ls, g, e) = ap (option_map gathered) (each_to xs ls g) ∙ ap Some (sym e)
  targets_to (Targets.none f) b g = ap Some (sym g)

  mutual
    computed_at : (i : Option Data) (t : Tree) (b : Answer) → GivesAt ps i t b → answer_at (outcome_in ps) i t ≡ Some b
    computed_at i (ended a) b e = ap Some (sym e)
    computed_at i (load k) b g = load_to k b g
    computed_at i (pick t field) b (a, g, e) = ap (option_map (picked field)) (computed_at i t a g) ∙ ap Some (sym e)
    computed_at i (follow t field table) b (a, g, h) =
        ap (option_and_then (λ x. target_answer (outcome_in ps) (target_in table (picked field x)))) (computed_at i t a g)
        ∙ target_to (target_in table (picked field a)) b h
    computed_at i (each t field table) b (a, g, h) =
        ap (option_and_then (λ x. targets_answer (outcome_in ps) (targets_in table (picked field x)))) (computed_at i t a g)
        ∙ targets_to (targets_in table (picked field a)) b h
    computed_at i (all ts) b (ls, g, e) = ap (option_map gathered) (all_computed i ts ls g) ∙ ap Some (sym e)
    computed_at i (over t body) b (a, g, h) =
        ap (option_and_then (λ x. copies_answer (λ d. answer_at (outcome_in ps) (Some d) body) (listed x))) (computed_at i t a g)
        ∙ copies_to (λ d c. GivesAt ps (Some d) body c) (λ d. answer_at (outcome_in ps) (Some d) body) (λ d c k. computed_at (Some d) body c k) (listed a) b h
    computed_at i the_item b e = ap Some (sym e)
    computed_at i (named names ts) b (ls, g, e) = ap (option_map (assembled names)) (all_computed i ts ls g) ∙ ap Some (sym e)

    all_computed : (i : Option Data) (ts : Trees) (ls : List Answer) → EachGivesAt ps i ts ls → answers_at (outcome_in ps) i ts ≡ Some ls
    all_computed i no_trees ls e = ap Some (sym e)
    all_computed i (tree t ts) ls (a, rest, g, h, e) =
        ap (λ o. both o (answers_at (outcome_in ps) i ts)) (computed_at i t a g)
        ∙ (ap (option_map (λ l. a ∷ l)) (all_computed i ts rest h) ∙ ap Some (sym e))

  pub computed : (t : Tree) (b : Answer) → Gives ps t b → answer (outcome_in ps) t ≡ Some b
  computed t b g = computed_at None t b g

  target_from : (x : Target) (b : Answer) → target_answer (outcome_in ps) x ≡ Some b → TargetGives ps x b
  target_from (Target.key k) b e = from_map (loaded k) (outcome_in ps k) b e
  target_from (Target.none f) b e = some_same b (Fault f) (sym e)

  each_from : (xs : List Target) (ls : List Answer) → target_answers (outcome_in ps) xs ≡ Some ls → EachTargetGives ps xs ls
  each_from [] ls e = some_same ls [] (sym e)
  each_from (x ∷ xs) ls e =
      let f = from_both (target_answer (outcome_in ps) x) (target_answers (outcome_in ps) xs) ls e in
      (f.0, f.1, target_from x f.0 f.2, each_from xs f.1 f.3, f.4)

  targets_from : (x : Targets) (b : Answer) → targets_answer (outcome_in ps) x ≡ Some b → TargetsGive ps x b
  targets_from (Targets.keys xs) b e =
      let f = from_map gathered (target_answers (outcome_in ps) xs) b e in
      (f.0, each_from xs f.0 f.1, f.2)
  targets_from (Targets.none f) b e = some_same b (Fault f) (sym e)

  mutual
    ruled_at : (i : Option Data) (t : Tree) (b : Answer) → answer_at (outcome_in ps) i t ≡ Some b → GivesAt ps i t b
    ruled_at i (ended a) b e = some_same b a (sym e)
    ruled_at i (load k) b e = from_map (loaded k) (outcome_in ps k) b e
    ruled_at i (pick t field) b e =
        let f = from_map (picked field) (answer_at (outcome_in ps) i t) b e in
        (f.0, ruled_at i t f.0 f.1, f.2)
    ruled_at i (follow t field table) b e =
        let f = from_and_then (λ x. target_answer (outcome_in ps) (target_in table (picked field x))) (answer_at (outcome_in ps) i t) b e in
        (f.0, ruled_at i t f.0 f.1, target_from (target_in table (picked field f.0)) b f.2)
    ruled_at i (each t field table) b e =
        let f = from_and_then (λ x. targets_answer (outcome_in ps) (targets_in table (picked field x))) (answer_at (outcome_in ps) i t) b e in
        (f.0, ruled_at i t f.0 f.1, targets_from (targets_in table (picked field f.0)) b f.2)
    ruled_at i (all ts) b e =
        let f = from_map gathered (answers_at (outcome_in ps) i ts) b e in
        (f.0, all_ruled i ts f.0 f.1, f.2)
    ruled_at i (over t body) b e =
        let f = from_and_then (λ x. copies_answer (λ d. answer_at (outcome_in ps) (Some d) body) (listed x)) (answer_at (outcome_in ps) i t) b e in (
          f.0,
          ruled_at i t f.0 f.1,
          copies_from (λ d c. GivesAt ps (Some d) body c) (λ d. answer_at (outcome_in ps) (Some d) body) (λ d c k. ruled_at (Some d) body c k) (listed f.0) b f.2,
        )
    ruled_at i the_item b e = some_same b (item_answer i) (sym e)
    ruled_at i (named names ts) b e =
        let f = from_map (assembled names) (answers_at (outcome_in ps) i ts) b e in
        (f.0, all_ruled i ts f.0 f.1, f.2)

    all_ruled : (i : Option Data) (ts : Trees) (ls : List Answer) → answers_at (outcome_in ps) i ts ≡ Some ls → EachGivesAt ps i ts ls
    all_ruled i no_trees ls e = some_same ls [] (sym e)
    all_ruled i (tree t ts) ls e =
        let f = from_both (answer_at (outcome_in ps) i t) (answers_at (outcome_in ps) i ts) ls e in
        (f.0, f.1, ruled_at i t f.0 f.2, all_ruled i ts f.1 f.3, f.4)

  pub ruled : (t : Tree) (b : Answer) → answer (outcome_in ps) t ≡ Some b → Gives ps t b
  ruled t b e = ruled_at None t b e

-- Parts that have ended answer together.
use Rattle.std.proofs.lemmas.List.{map-append}
use Rattle.std.proofs.Common.{is_some, ◌&&◌, true≢false, ◌≡◌, ◌∙◌, append_assoc, ap, sym, refl, Bool, false, List, [], ◌∷◌, ◌++◌, map, Option, Some, None}
use Rattle.std.specs.Prelude.{IsSome, MatchOption}
use Rattle.std.specs.List.{list_all}
use Rattle.std.specs.Option.{option_map}
use Rattle.serde_json.specs.Data.{Data}
use Rattle.serde_json.specs.View.{items_of}
use Rattle.dl_terms.specs.declared.answer.Answer.{Answer}
use Rattle.dl_terms.specs.declared.answer.Answer.TheVariants.{Value, Fault}
use Rattle.dl_terms.specs.declared.answer.EvalFault.{EvalFault}
use Rattle.dl_terms.specs.declared.node.Node.{Node}
use Rattle.dl_terms.specs.TermAnswers.{Gathered, gather, Joint, joined, joined_as, joined_data, with_first, both}
use Rattle.dl_terms.specs.Node.{joined_tree, node_view, nodes_view, result_of, results_of}
use Rattle.dl_terms.specs.Tree.{Tree, Trees, ended}
use Rattle.dl_terms.specs.Inside.Exploration.{JoinsOn}
use Rattle.dl_terms.proofs.Options.{none_absurd, some_same}

-- the nodes have ended with the values
abbrev pub AreValues : List Node → List Data → Type 0
AreValues ns vs = map (λ n. result_of (node_view n)) ns ≡ map (λ v. Some (Value v)) vs

head_is : {A : Type 0} (x y : A) (xs ys : List A) → x ∷ xs ≡ y ∷ ys → x ≡ y
head_is {A} x y xs ys e = let same : ◌≡◌ {A = List A} (x ∷ xs) (y ∷ ys) = e in cc

tail_is : {A : Type 0} (x y : A) (xs ys : List A) → x ∷ xs ≡ y ∷ ys → xs ≡ ys
tail_is {A} x y xs ys e = let same : ◌≡◌ {A = List A} (x ∷ xs) (y ∷ ys) = e in cc

none_cons : {A : Type 0} (x : A) (xs : List A) → [] ≡ x ∷ xs → ⊥
none_cons {A} x xs e = let same : ◌≡◌ {A = List A} [] (x ∷ xs) = e in cc

gather_values : (vs : List Data) → gather (map Value vs) ≡ Gathered.values (items_of vs)
gather_values [] = refl
gather_values (v ∷ vs) = ap (with_first v) (gather_values vs)

results_values : (ns : List Node) (vs : List Data) → AreValues ns vs → results_of (nodes_view ns) ≡ Some (map Value vs)
results_values [] [] e = refl
results_values [] (v ∷ vs) e = absurd (none_cons _ _ e)
results_values (n ∷ ns) [] e = absurd (none_cons _ _ (sym e))
results_values (n ∷ ns) (v ∷ vs) e =
    let first : result_of (node_view n) ≡ Some (Value v) = head_is _ _ _ _ e in
    let rest = results_values ns vs (tail_is _ _ _ _ e) in
    ap (λ o. both o (results_of (nodes_view ns))) first ∙ ap (option_map (λ ls. Value v ∷ ls)) rest

-- all of them answer the values, joined
pub values_together : (j : Joint) (ns : List Node) (vs : List Data) → AreValues ns vs
    → option_map (joined j) (results_of (nodes_view ns)) ≡ Some (Value (joined_data j (items_of vs)))
values_together j ns vs e = ap (option_map (joined j)) (results_values ns vs e) ∙ ap (λ g. Some (joined_as j g)) (gather_values vs)

-- ---- a part that failed

fault_in : (j : Joint) (d : Data) (g : Gathered) (f : EvalFault) → joined_as j g ≡ Fault f → joined_as j (with_first d g) ≡ Fault f
fault_in j d (Gathered.values ds) f e = absurd (let bad : Value (joined_data j ds) ≡ Fault f = e in cc)
fault_in j d (Gathered.fault h) f e = e

fault_behind : (j : Joint) (d : Data) (o : Option (List Answer)) (f : EvalFault) → option_map (joined j) o ≡ Some (Fault f)
    → option_map (joined j) (option_map (λ ls. Value d ∷ ls) o) ≡ Some (Fault f)
fault_behind j d None f e = e
fault_behind j d (Some ls) f e =
    let same : joined_as j (gather ls) ≡ Fault f = (let s : ◌≡◌ {A = Option Answer} (Some (joined_as j (gather ls))) (Some (Fault f)) = e in cc) in
    ap Some (fault_in j d (gather ls) f same)

both_right : {A : Type 0} (x : Option A) (xs : Option (List A)) → IsSome (both x xs) → IsSome xs
both_right None xs h = absurd (let bad = h in cc)
both_right (Some a) None h = h
both_right (Some a) (Some l) h = refl

both_left : {A : Type 0} (x : Option A) (xs : Option (List A)) → IsSome (both x xs) → IsSome x
both_left None xs h = h
both_left (Some a) xs h = refl

fault_here : (j : Joint) (f : EvalFault) (o : Option (List Answer)) → IsSome o → option_map (joined j) (both (Some (Fault f)) o) ≡ Some (Fault f)
fault_here j f None h = absurd (let bad = h in cc)
fault_here j f (Some ls) h = refl

-- behind values it is what all answer
pub fault_together : (j : Joint) (ns : List Node) (vs : List Data) (n : Node) (rest : List Node) (f : EvalFault) → AreValues ns vs
    → result_of (node_view n) ≡ Some (Fault f)
    → IsSome (results_of (nodes_view (ns ++ n ∷ rest))) → option_map (joined j) (results_of (nodes_view (ns ++ n ∷ rest))) ≡ Some (Fault f)
fault_together j [] [] n rest f e is every =
    ap (λ o. option_map (joined j) (both o (results_of (nodes_view rest)))) is
    ∙ fault_here j f (results_of (nodes_view rest)) (both_right (result_of (node_view n)) (results_of (nodes_view rest)) every)
fault_together j [] (v ∷ vs) n rest f e is every = absurd (none_cons _ _ e)
fault_together j (m ∷ ms) [] n rest f e is every = absurd (none_cons _ _ (sym e))
fault_together j (m ∷ ms) (v ∷ vs) n rest f e is every =
    let more = results_of (nodes_view (ms ++ n ∷ rest)) in
    let first : result_of (node_view m) ≡ Some (Value v) = head_is _ _ _ _ e in
    let later = fault_together j ms vs n rest f (tail_is _ _ _ _ e) is (both_right (result_of (node_view m)) more every) in
    ap (λ o. option_map (joined j) (both o more)) first ∙ fault_behind j v more f later

-- each of them has ended
pub ended_in : (ns : List Node) (n : Node) (rest : List Node) → IsSome (results_of (nodes_view (ns ++ n ∷ rest))) → IsSome (result_of (node_view n))
ended_in [] n rest every = both_left (result_of (node_view n)) (results_of (nodes_view rest)) every
ended_in (m ∷ ms) n rest every = ended_in ms n rest (both_right (result_of (node_view m)) (results_of (nodes_view (ms ++ n ∷ rest))) every)

-- ---- one step of a loop that takes the values out

pub left_next : (whole done left rest : List Node) (n : Node) → whole ≡ done ++ left → left ≡ n ∷ rest → whole ≡ (done ++ n ∷ []) ++ rest
left_next whole done left rest n e s = e ∙ (ap (λ l. done ++ l) s ∙ sym (append_assoc done (n ∷ []) rest))

pub values_next : (ns : List Node) (vs more : List Data) (n : Node) (v : Data) → AreValues ns vs → result_of (node_view n) ≡ Some (Value v)
    → more ≡ vs ++ v ∷ [] → AreValues (ns ++ n ∷ []) more
values_next ns vs more n v h is pushed =
    map-append (λ (m : Node). result_of (node_view m)) ns (n ∷ [])
    ∙ (ap (λ l. l ++ result_of (node_view n) ∷ []) h
    ∙ (ap (λ o. map (λ w. Some (Value w)) vs ++ o ∷ []) is
    ∙ (sym (map-append (λ (w : Data). Some (Value w)) vs (v ∷ [])) ∙ ap (map (λ w. Some (Value w))) (sym pushed))))

-- ---- whether parts have ended

ended_step : (x : Option Answer) (xs : Option (List Answer)) (b : Bool) → b ≡ is_some xs → (is_some x && b) ≡ is_some (both x xs)
ended_step None xs b e = refl
ended_step (Some a) None b e = e
ended_step (Some a) (Some ls) b e = e

pub all_ended : (ns : List Node) → list_all (λ n. is_some (result_of (node_view n))) ns ≡ is_some (results_of (nodes_view ns))
all_ended [] = refl
all_ended (n ∷ ns) = ended_step (result_of (node_view n)) (results_of (nodes_view ns)) (list_all (λ m. is_some (result_of (node_view m))) ns) (all_ended ns)

none_ended : (j : Joint) (vs : Trees) (u : Tree) (r : Option (List Answer)) → is_some r ≡ false → u ≡ joined_tree j vs
    → MatchOption r (u ≡ joined_tree j vs) (λ ls. u ≡ ended (joined j ls))
none_ended j vs u None e is = is
none_ended j vs u (Some ls) e is = absurd (true≢false e)

pub joins_none : (j : Joint) (vs : Trees) (u : Tree) → is_some (results_of vs) ≡ false → u ≡ joined_tree j vs → JoinsOn j vs u
joins_none j vs u e is = none_ended j vs u (results_of vs) e is

some_ended : (j : Joint) (vs : Trees) (u : Tree) (a : Answer) (r : Option (List Answer)) → option_map (joined j) r ≡ Some a → u ≡ ended a
    → MatchOption r (u ≡ joined_tree j vs) (λ ls. u ≡ ended (joined j ls))
some_ended j vs u a None e is = absurd (none_absurd a e)
some_ended j vs u a (Some ls) e is = is ∙ ap ended (sym (some_same (joined j ls) a e))

pub joins_some : (j : Joint) (vs : Trees) (u : Tree) (a : Answer) → option_map (joined j) (results_of vs) ≡ Some a → u ≡ ended a → JoinsOn j vs u
joins_some j vs u a e is = some_ended j vs u a (results_of vs) e is

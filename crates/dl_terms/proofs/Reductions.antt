-- What a round makes of each form stands for it.
use Rattle.std.proofs.Common.{◌≡◌, ◌∙◌, ap, sym, subst, refl, ℕ, suc, ◌+◌, ◌<◌, ◌≤◌, Bool, true, false, nat_lt, if◌then◌else◌, List, [], ◌∷◌, ◌++◌, take}
use Rattle.std.proofs.Common.{drop, length, get_or, Option, Some, None, Result}
use Rattle.std.specs.Prelude.{IfOk, MatchOption}
use Rattle.std.specs.Option.{option_map}
use Rattle.std.specs.List.{AllZip}
use Rattle.std.proofs.lemmas.List.{take_more, drop_more}
use Rattle.std.proofs.lemmas.List.Sums.{fold-append}
use Rattle.indexmap.specs.IndexSet.{insert_key, insert_all}
use Rattle.std.proofs.lemmas.Bool.{lt-ltb, le-ltb}
use Rattle.serde_json.specs.Data.{Items}
use Rattle.serde_json.specs.View.{view, items_view}
use Rattle.serde_json.specs.declared.value.Value.{Value}
use Rattle.dl_values.specs.Key.{Key, key_eq}
use Rattle.dl_values.specs.declared.outcome.Outcome.{Outcome}
use Rattle.dl_terms.specs.declared.answer.Answer.{Answer}
use Rattle.dl_terms.specs.declared.answer.Answer.TheVariants.{Fault}
use Rattle.dl_terms.specs.declared.answer.EvalFault.{EvalFault}
use Rattle.dl_terms.specs.declared.answer.EvalFault.TheVariants as why
use Rattle.dl_terms.specs.declared.node.Frame.{Frame}
use Rattle.dl_terms.specs.declared.node.Node.{Node}
use Rattle.dl_terms.specs.Tree.{Name, Tree, ended, load, pick, follow, each, all, over, the_item, named, Trees, no_trees, tree}
use Rattle.dl_terms.specs.TermAnswers.{Joint, listing, naming, joined, loaded, both, load_waits_for, Target, value_target, item_targets, target_answer}
use Rattle.dl_terms.specs.TermAnswers.{target_answers, target_waits, each_target_waits, Targets, few, list_targets, targets_answer, targets_waits}
use Rattle.dl_terms.specs.TermAnswers.{answer, answers, waits, all_wait, most_items}
use Rattle.dl_terms.specs.Node.{framed, joined_tree, node_view, nodes_view, result_of, results_of}
use Rattle.dl_terms.specs.Reduction.{Stands, Reduces}
use Rattle.dl_terms.specs.Inside.Exploration.{Becomes, StandAll, ReduceAll, LoadsTarget, LoadsEach, LoadsTargets, JoinsOn}
use Rattle.dl_terms.proofs.Options.{none_absurd, some_same, from_both}

pub result_is : (v : Tree) (a : Answer) → result_of v ≡ Some a → v ≡ ended a
result_is (ended b) a e = ap ended (some_same b a e)
result_is (load k) a e = absurd (none_absurd a e)
result_is (pick t field) a e = absurd (none_absurd a e)
result_is (follow t field table) a e = absurd (none_absurd a e)
result_is (each t field table) a e = absurd (none_absurd a e)
result_is (all ts) a e = absurd (none_absurd a e)
result_is (over t body) a e = absurd (none_absurd a e)
result_is the_item a e = absurd (none_absurd a e)
result_is (named names ts) a e = absurd (none_absurd a e)

-- trees that have all ended answer so, and wait for nothing
pub results_answer : (vs : Trees) (ls : List Answer) → results_of vs ≡ Some ls → (q : Key → Option Outcome) → (answers q vs ≡ Some ls) × (all_wait q vs ≡ [])
results_answer no_trees ls e q = (e, refl)
results_answer (tree t ts) ls e q =
    let f = from_both (result_of t) (results_of ts) ls e in
    let is : t ≡ ended f.0 = result_is t f.0 f.2 in
    let rest = results_answer ts f.1 f.3 q in (
      ap (λ u. both (answer q u) (answers q ts)) is ∙ (ap (option_map (λ l. f.0 ∷ l)) rest.0 ∙ ap Some (sym f.4)),
      ap (λ u. waits q u ++ all_wait q ts) is
          ∙ rest.1,
    )

-- ---- trees joined to one

joined_answer : (j : Joint) (q : Key → Option Outcome) (vs : Trees) → answer q (joined_tree j vs) ≡ option_map (joined j) (answers q vs)
joined_answer listing q vs = refl
joined_answer (naming names) q vs = refl

joined_waits : (j : Joint) (q : Key → Option Outcome) (vs : Trees) → waits q (joined_tree j vs) ≡ all_wait q vs
joined_waits listing q vs = refl
joined_waits (naming names) q vs = refl

joined_open : (j : Joint) (vs : Trees) → result_of (joined_tree j vs) ≡ None
joined_open listing vs = refl
joined_open (naming names) vs = refl

module _ (p : Key → Option Outcome) where
  pub load_known : (k : Key) (o : Outcome) → p k ≡ Some o → (u : Tree) → u ≡ ended (loaded k o) → LoadsTarget p (Target.key k) u
  load_known k o e u is = record {
    meaning = λ q more. ap (answer q) is ∙ ap (option_map (loaded k)) (sym (more k o e));
    waiting = λ q more. ap (waits q) is ∙ ap (load_waits_for k) (sym (more k o e));
    ending = ap result_of is ∙ ap (option_map (loaded k)) (sym e);
  }

  pub load_waiting : (k : Key) → p k ≡ None → (u : Tree) → u ≡ load k → LoadsTarget p (Target.key k) u
  load_waiting k e u is = record {
    meaning = λ q more. ap (answer q) is;
    waiting = λ q more. ap (waits q) is;
    ending = ap result_of is ∙ ap (option_map (loaded k)) (sym e);
  }

  -- ---- several together

  join_on : (j : Joint) (say : (Key → Option Outcome) → Option (List Answer)) (lack : (Key → Option Outcome)
      → List Key) (vs : Trees) (u : Tree) (r : Option (List Answer)) → results_of vs ≡ r
      → StandAll p say lack vs → MatchOption r (u ≡ joined_tree j vs) (λ ls. u ≡ ended (joined j ls)) → Stands p (λ q. option_map (joined j) (say q)) lack u
  join_on j say lack vs u None e s is = record {
    meaning = λ q more. ap (answer q) is ∙ (joined_answer j q vs ∙ ap (option_map (joined j)) (s.meaning q more));
    waiting = λ q more. ap (waits q) is ∙ (joined_waits j q vs ∙ s.waiting q more);
    ending = ap result_of is ∙ (joined_open j vs ∙ ap (option_map (joined j)) (sym e ∙ s.ending));
  }
  join_on j say lack vs u (Some ls) e s is = record {
    meaning = λ q more. ap (answer q) is ∙ ap (option_map (joined j)) (sym (results_answer vs ls e q).0 ∙ s.meaning q more);
    waiting = λ q more. ap (waits q) is ∙ (sym (results_answer vs ls e q).1 ∙ s.waiting q more);
    ending = ap result_of is ∙ ap (option_map (joined j)) (sym e ∙ s.ending);
  }

  pub joins_on : (j : Joint) (say : (Key → Option Outcome) → Option (List Answer)) (lack : (Key → Option Outcome) → List Key) (vs : Trees) (u : Tree)
      → StandAll p say lack vs → JoinsOn j vs u → Stands p (λ q. option_map (joined j) (say q)) lack u
  joins_on j say lack vs u s on = join_on j say lack vs u (results_of vs) refl s on

  -- and what they wait for
  pub parts_want : (j : Joint) (ts : Trees) (ks : List Key) → insert_all key_eq ks (all_wait p ts) ≡ insert_all key_eq ks (waits p (joined_tree j ts))
  parts_want j ts ks = ap (insert_all key_eq ks) (sym (joined_waits j p ts))

  -- parts that a round has explored, joined
  pub parts_reduce : (j : Joint) (ts vs : Trees) (u : Tree) → ReduceAll p ts vs → JoinsOn j vs u → Reduces p (joined_tree j ts) u
  parts_reduce listing ts vs u s on = joins_on listing (λ q. answers q ts) (λ q. all_wait q ts) vs u s on
  parts_reduce (naming names) ts vs u s on = joins_on (naming names) (λ q. answers q ts) (λ q. all_wait q ts) vs u s on

  -- ---- a chain that a round has explored in place

  pub chain_left : {E : Type 0} (r : Result (Option Node) E) (node after part now left : Node) (fs gs : List Frame) → now ≡ part
      → IfOk r (Becomes p (framed fs (node_view now)) (framed gs (node_view left))) → node_view node ≡ framed fs (node_view part)
      → node_view after ≡ framed gs (node_view left) → IfOk r (Becomes p (node_view node) (node_view after))
  chain_left r node after part now left fs gs same explored e is =
      subst (λ v. IfOk r (Becomes p (node_view node) v)) (sym is)
      (subst (λ t. IfOk r (Becomes p t (framed gs (node_view left)))) (ap (λ n. framed fs (node_view n)) same ∙ sym e) explored)

  pub stand_more : (says : (Key → Option Outcome) → Option Answer) (lacks : (Key → Option Outcome) → List Key) (say : (Key → Option Outcome)
      → Option (List Answer)) (lack : (Key → Option Outcome) → List Key) (u : Tree) (us : Trees)
      → Stands p says lacks u → StandAll p say lack us → StandAll p (λ q. both (says q) (say q)) (λ q. lacks q ++ lack q) (tree u us)
  stand_more says lacks say lack u us s rest = record {
    meaning = λ q more. ap (λ o. both o (answers q us)) (s.meaning q more) ∙ ap (both (says q)) (rest.meaning q more);
    waiting = λ q more. ap (λ ks. ks ++ all_wait q us) (s.waiting q more) ∙ ap (λ ks. lacks q ++ ks) (rest.waiting q more);
    ending = ap (λ o. both o (results_of us)) s.ending ∙ ap (both (says p)) rest.ending;
  }

  pub nodes_reduce : (before after : List Node) → AllZip (λ n m. Reduces p (node_view n) (node_view m)) before after
      → ReduceAll p (nodes_view before) (nodes_view after)
  nodes_reduce [] [] h = record { meaning = λ q more. refl; waiting = λ q more. refl; ending = refl }
  nodes_reduce [] (m ∷ ms) h = absurd h
  nodes_reduce (n ∷ ns) [] h = absurd h
  nodes_reduce (n ∷ ns) (m ∷ ms) h =
      stand_more (λ q. answer q (node_view n)) (λ q. waits q (node_view n)) (λ q. answers q (nodes_view ns)) (λ q. all_wait q (nodes_view ns)) (node_view m)
      (nodes_view ms) h.0 (nodes_reduce ns ms h.1)

  pub ids_load : (table : Name) (vs : List Value) (ns : List Node) → AllZip (λ v n. LoadsTarget p (value_target table (view v)) (node_view n)) vs ns
      → LoadsEach p (item_targets table (items_view vs)) (nodes_view ns)
  ids_load table [] [] h = record { meaning = λ q more. refl; waiting = λ q more. refl; ending = refl }
  ids_load table [] (n ∷ ns) h = absurd h
  ids_load table (v ∷ vs) [] h = absurd h
  ids_load table (v ∷ vs) (n ∷ ns) h =
      stand_more (λ q. target_answer q (value_target table (view v))) (λ q. target_waits q (value_target table (view v)))
      (λ q. target_answers q (item_targets table (items_view vs))) (λ q. each_target_waits q (item_targets table (items_view vs)))
      (node_view n) (nodes_view ns) h.0 (ids_load table vs ns h.1)

pub zip_push : {A B : Type 0} (R : A → B → Type 0) (xs : List A) (ys : List B) (x : A) (y : B) → AllZip R xs ys → R x y → AllZip R (xs ++ x ∷ []) (ys ++ y ∷ [])
zip_push R [] [] x y h r = (r, tt)
zip_push R [] (b ∷ bs) x y h r = absurd h
zip_push R (a ∷ more) [] x y h r = absurd h
zip_push R (a ∷ more) (b ∷ bs) x y h r = (h.0, zip_push R more bs x y h.1 r)

-- ---- one step of a loop over a list

module _ {A : Type 0} (xs : List A) (i : ℕ) (x : A) (lt : i < length xs) (is : x ≡ get_or xs i x) where
  pub zip_next : {B : Type 0} (R : A → B → Type 0) (ys more : List B) (y : B) → more ≡ ys ++ y ∷ [] → AllZip R (take i xs) ys → R x y
      → AllZip R (take (i + 1) xs) more
  zip_next R ys more y pushed h r =
      subst (λ l. AllZip R l more) (sym (take_more xs i x lt ∙ ap (λ z. take i xs ++ z ∷ []) (sym is)))
      (subst (AllZip R (take i xs ++ x ∷ [])) (sym pushed) (zip_push R (take i xs) ys x y h r))

  -- what the rest adds to the wanted keys, where x has added its own
  pub wanted_next : (own : A → List Key) (all_own : List A → List Key) → ((rest : List A) → all_own (x ∷ rest) ≡ own x ++ all_own rest)
      → (now next total : List Key) → insert_all key_eq now (all_own (drop i xs)) ≡ total → next ≡ insert_all key_eq now (own x)
      → insert_all key_eq next (all_own (drop (i + 1) xs)) ≡ total
  wanted_next own all_own split now next total h e =
      let rest = drop (i + 1) xs in
      let front : drop i xs ≡ x ∷ rest = drop_more xs i x lt ∙ ap (λ z. z ∷ rest) (sym is) in
      ap (λ ks. insert_all key_eq ks (all_own rest)) e
      ∙ (sym (fold-append (insert_key key_eq) now (own x) (all_own rest))
      ∙ (ap (insert_all key_eq now) (sym (split rest)) ∙ (ap (λ l. insert_all key_eq now (all_own l)) (sym front) ∙ h)))

-- ---- lists of ids

items-long : (table : Name) (vs : List Value) → length (item_targets table (items_view vs)) ≡ length vs
items-long table [] = refl
items-long table (v ∷ vs) = ap suc (items-long table vs)

few_step : (xs : List Target) (b : Bool) → nat_lt most_items (length xs) ≡ b → few xs ≡ if b then Targets.none why.TooMany else Targets.keys xs
few_step xs b e = ap (λ t. if t then Targets.none why.TooMany else Targets.keys xs) e

pub too_many : (table : Name) (o : Option Items) (vs : List Value) → Some (items_view vs) ≡ o → most_items < length vs
    → list_targets table o ≡ Targets.none why.TooMany
too_many table o vs e many =
    ap (list_targets table) (sym e) ∙ few_step (item_targets table (items_view vs)) true
    (ap (nat_lt most_items) (items-long table vs) ∙ lt-ltb most_items (length vs) many)

pub not_many : (table : Name) (o : Option Items) (vs : List Value) → Some (items_view vs) ≡ o → length vs ≤ most_items
    → list_targets table o ≡ Targets.keys (item_targets table (items_view vs))
not_many table o vs e few_are =
    ap (list_targets table) (sym e) ∙ few_step (item_targets table (items_view vs)) false
    (ap (nat_lt most_items) (items-long table vs) ∙ le-ltb most_items (length vs) few_are)

pub fault_loads : (p : Key → Option Outcome) (x : Targets) (f : EvalFault) (u : Tree) → x ≡ Targets.none f → u ≡ ended (Fault f) → LoadsTargets p x u
fault_loads p x f u e is = record {
  meaning = λ q more. ap (answer q) is ∙ ap (targets_answer q) (sym e);
  waiting = λ q more. ap (waits q) is ∙ ap (targets_waits q) (sym e);
  ending = ap result_of is ∙ ap (targets_answer p) (sym e);
}

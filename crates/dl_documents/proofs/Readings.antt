-- Reading lists of calls, of steps, of plans and of lists, one by one.
use Rattle.std.proofs.Common.{◌≡◌, ℕ, List, [], ◌∷◌, ◌++◌, length, map, Some, None, refl, sym, ap, ◌∙◌, subst, Vec}
use Rattle.std.proofs.lemmas.List.{map-append, length-map}
use Rattle.std.proofs.lemmas.Option.{none-some}
use Rattle.std.specs.declared.alloc.Global.{Global}
use Rattle.std.specs.List.{AllByRecursion}
use Rattle.json.specs.declared.value.Value.{Value}
use Rattle.serde_json.specs.Data.{Data, array}
use Rattle.serde_json.specs.Find.{as_array}
use Rattle.dl_source.proofs.Spelling.{array_of}
use Rattle.dl_terms.specs.declared.plan.Plan.{Plan}
use Rattle.dl_terms.specs.declared.plan.Step.{Step}
use Rattle.dl_documents.proofs.CallLaws.{call_is, call_again}
use Rattle.dl_documents.proofs.StepLaws.{step_is, step_again}
use Rattle.dl_documents.proofs.ListSpelling.{Spell, IsAny, spell_next, spell_size, spell_stops, spelled_before, place_of, item_now, all_at, from_item}
use Rattle.dl_documents.specs.Faults.{IsNoCall, IsNoStep}
use Rattle.dl_documents.proofs.TreeLists.{list_data_is}
use Rattle.dl_documents.specs.Inside.Trees.{tree_data, list_data}
use Rattle.dl_documents.specs.Inside.Places.{HasOne}
use Rattle.dl_documents.specs.Inside.Scripts.{IsFirstBadCall}
use Rattle.dl_documents.specs.Inside.PlanFiles.{row_tree, rows_view, HasOther, IsPlanOf, IsFirstBadIn, IsFirstBadStep}
use Rattle.dl_documents.specs.Reading.{call_in}
use Rattle.dl_documents.specs.Script.{call_tree, IsScriptCall}
use Rattle.dl_documents.specs.StepReading.{step_in}
use Rattle.dl_documents.specs.Steps.{StepTree, step_tree, step_view, plan_view, IsPlanStep}
use Rattle.dl_documents.specs.declared.forms.Forms.{Forms}
use Rattle.dl_documents.specs.declared.fault.PlanFault.{PlanFault}
use Rattle.dl_documents.specs.declared.fault.PlanFault.TheVariants.{BadCall, Shape}
use Rattle.dl_desk.specs.declared.call.DeskCall.{DeskCall}

-- ---- calls

-- calls so far
abbrev pub SpellCalls : List (Value Global) → List DeskCall → Type 0
SpellCalls vs calls = Spell tree_data call_tree IsScriptCall vs calls

pub calls_more : (vs : List (Value Global)) (v : Value Global) (calls : List DeskCall) (c : DeskCall) → SpellCalls vs calls → Some c ≡ call_in (tree_data v)
    → SpellCalls (vs ++ v ∷ []) (calls ++ c ∷ [])
calls_more vs v calls c so_far found =
    let p = call_is (tree_data v) c (sym found) in
    spell_next tree_data call_tree IsScriptCall vs v calls c so_far p.tree p.is

-- the first item that is no call
pub calls_stop : (front : List (Value Global)) (v : Value Global) (rest vs : List (Value Global)) (calls : List DeskCall) (n : ℕ) → front ++ v ∷ rest ≡ vs → n ≡ length calls
    → SpellCalls front calls → None ≡ call_in (tree_data v) → IsFirstBadCall (map tree_data vs) (BadCall n)
calls_stop front v rest vs calls n is size so_far none =
    let place = place_of front v rest vs is in
    let long : length front ≡ n = spell_size tree_data call_tree IsScriptCall front calls so_far ∙ sym size in
    rw (← long) (record {
      call = length front;
      names = refl;
      first = spell_stops tree_data call_tree IsScriptCall IsNoCall (λ c is bad. bad c is refl) vs (length front) v calls place.low place.at
          (subst (λ l. SpellCalls l calls) (sym place.cut) so_far) (λ c is e. none-some c (none ∙ (ap call_in e ∙ call_again c is)));
    })

-- ---- steps

-- steps so far
abbrev pub SpellSteps : Forms → List (Value Global) → List Step → Type 0
SpellSteps forms vs steps = Spell tree_data step_tree (IsPlanStep forms) vs (map step_view steps)

pub steps_more : (forms : Forms) (vs : List (Value Global)) (v : Value Global) (steps : List Step) (s : Step) → SpellSteps forms vs steps → Some (step_view s) ≡ step_in forms (tree_data v)
    → SpellSteps forms (vs ++ v ∷ []) (steps ++ s ∷ [])
steps_more forms vs v steps s so_far found =
    let p = step_is forms (tree_data v) (step_view s) (sym found) in
    rw (map-append step_view steps (s ∷ [])) (spell_next tree_data step_tree (IsPlanStep forms) vs v (map step_view steps) (step_view s) so_far p.tree p.is)

-- the first item that is no step
pub steps_stop : (forms : Forms) (plan : ℕ) (front : List (Value Global)) (v : Value Global) (rest vs : List (Value Global)) (steps : List Step) (n : ℕ)
    → front ++ v ∷ rest ≡ vs → n ≡ length steps
    → SpellSteps forms front steps → None ≡ step_in forms (tree_data v) → IsFirstBadIn forms plan (map tree_data vs) (Shape plan n)
steps_stop forms plan front v rest vs steps n is size so_far none =
    let place = place_of front v rest vs is in
    let long : length front ≡ n = spell_size tree_data step_tree (IsPlanStep forms) front (map step_view steps) so_far ∙ length-map steps step_view ∙ sym size in
    rw (← long) (record {
      step = length front;
      names = refl;
      first = spell_stops tree_data step_tree (IsPlanStep forms) (IsNoStep forms) (λ s is bad. bad s is refl) vs (length front) v (map step_view steps) place.low place.at
          (subst (λ l. SpellSteps forms l steps) (sym place.cut) so_far) (λ s is e. none-some s (none ∙ (ap (step_in forms) e ∙ step_again forms s is)));
    })

-- ---- plans

-- the trees of a list of values
abbrev pub trees_of : Vec (Value Global) Global → List Data
trees_of list = map tree_data list.items

-- plans so far
abbrev pub SpellPlans : Forms → List (Vec (Value Global) Global) → List Plan → Type 0
SpellPlans forms lists plans = Spell trees_of (map step_tree) (AllByRecursion (IsPlanStep forms)) lists (map plan_view plans)

pub plans_more : (forms : Forms) (lists : List (Vec (Value Global) Global)) (list : Vec (Value Global) Global) (plans : List Plan) (p : Plan) → SpellPlans forms lists plans
    → IsPlanOf forms (map tree_data list.items) (plan_view p) → SpellPlans forms (lists ++ list ∷ []) (plans ++ p ∷ [])
plans_more forms lists list plans p so_far is =
    rw (map-append plan_view plans (p ∷ []))
    (spell_next trees_of (map step_tree) (AllByRecursion (IsPlanStep forms)) lists list (map plan_view plans) (plan_view p) so_far is.trees is.steps)

-- trees of steps have none that is no step
no_bad : (forms : Forms) (steps : List StepTree) → AllByRecursion (IsPlanStep forms) steps → HasOne (IsNoStep forms) (map step_tree steps) → ⊥
no_bad forms steps all has =
    let p = from_item step_tree steps has.0 has.1 has.2 in
    has.3 p.0 (all_at (IsPlanStep forms) steps has.0 p.0 all p.1) p.2

-- the first list with an item that is no step
pub plans_stop : (forms : Forms) (front : List (Vec (Value Global) Global)) (list : Vec (Value Global) Global) (rest lists : List (Vec (Value Global) Global))
    (plans : List Plan) (n : ℕ) (f : PlanFault)
    → front ++ list ∷ rest ≡ lists → n ≡ length plans → SpellPlans forms front plans → IsFirstBadIn forms n (map tree_data list.items) f
    → IsFirstBadStep forms (rows_view lists) f
plans_stop forms front list rest lists plans n f is size so_far bad =
    let place = place_of front list rest lists is in
    let long : length front ≡ n = spell_size trees_of (map step_tree) (AllByRecursion (IsPlanStep forms)) front (map plan_view plans) so_far
    ∙ length-map plans plan_view
    ∙ sym size in
    let read = subst (λ l. SpellPlans forms l plans) (sym place.cut) so_far in
    record {
      plan = n;
      step = bad.step;
      names = bad.names;
      first = record {
        row = trees_of list;
        there = rw (← long) (item_now trees_of lists (length front) list place.low place.at);
        in_row = bad.first;
        before = λ k r less there has.
            (let p = spelled_before trees_of (map step_tree) (AllByRecursion (IsPlanStep forms)) lists (length front) k (map plan_view plans) r read
            (rw long less) there in
            no_bad forms p.0 p.2 (rw p.1 at has));
      };
    }

-- ---- lists

-- lists so far
abbrev pub SpellLists : List (Value Global) → List (Vec (Value Global) Global) → Type 0
SpellLists vs lists = Spell tree_data row_tree IsAny vs (rows_view lists)

pub lists_more : (vs : List (Value Global)) (v : Value Global) (lists : List (Vec (Value Global) Global)) (list : Vec (Value Global) Global)
    → SpellLists vs lists
    → Some (list_data list.items) ≡ as_array (tree_data v) → SpellLists (vs ++ v ∷ []) (lists ++ list ∷ [])
lists_more vs v lists list so_far is =
    rw (map-append trees_of lists (list ∷ []))
    (spell_next tree_data row_tree IsAny vs v (rows_view lists) (trees_of list) so_far
    (array_of (tree_data v) (list_data list.items) (sym is) ∙ ap array (list_data_is list.items)) tt)

pub lists_stop : (front : List (Value Global)) (v : Value Global) (rest vs : List (Value Global)) → front ++ v ∷ rest ≡ vs → None ≡ as_array (tree_data v)
    → HasOther (map tree_data vs)
lists_stop front v rest vs is none =
    let place = place_of front v rest vs is in
    (length front, tree_data v, item_now tree_data vs (length front) v place.low place.at, sym none)

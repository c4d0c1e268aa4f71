-- How the fault of a term comes from one of its parts.
use Rattle.std.proofs.Common.{◌≡◌, ◌∙◌, ap, sym, subst, refl, ℕ, suc, ◌+◌, ◌<◌, ◌≤◌, List, [], ◌∷◌, ◌++◌, length, map, drop, take, get_or, Option, Some, None, append_assoc, arith}
use Rattle.std.specs.Prelude.{option_map, option_and_then, reverse, Result, Ok, Err, IfNone, IfSome, Vec}
use Rattle.std.specs.declared.alloc.Global.{Global}
use Rattle.std.proofs.Common.{inl, inr}
use Rattle.std.specs.List.{AllZip}
use Rattle.std.proofs.lemmas.List.{length-append, length-map, length-take, map-append, reverse-append, take-append-drop, take_more}
use Rattle.dl_terms.proofs.Reductions.{zip_push}
use Rattle.serde_json.specs.Data.{Data}
use Rattle.serde_json.specs.Find.{get, as_array}
use Rattle.serde_json.specs.View.{items_of, items_view, view}
use Rattle.serde_json.specs.declared.value.Value.{Value as JsonValue}
use Rattle.dl_values.specs.Key.{Key}
use Rattle.dl_values.specs.declared.outcome.Outcome.{Outcome}
use Rattle.dl_history.specs.Lists.{Every}
use Rattle.dl_terms.specs.Tree.{Name, Tree, ended, load, pick, follow, each, all, over, the_item, named, tree, copies, with_item, with_item_all}
use Rattle.dl_terms.specs.TermAnswers.{answer, answer_at, answers, both, copies_answer, field_or, gather, gathered, Gathered, item_targets, Joint, joined, joined_as, joined_data}
use Rattle.dl_terms.specs.TermAnswers.{listing, naming, Listed, listed, list_targets, picked, target_answer, target_answers, target_in, Targets, targets_answer}
use Rattle.dl_terms.specs.TermAnswers.{targets_in, value_target, with_first}
use Rattle.dl_terms.proofs.Substitution.{copies_given}
use Rattle.dl_terms.specs.View.{term_view, terms_view, trees_of}
use Rattle.dl_terms.specs.declared.answer.Answer.{Answer}
use Rattle.dl_terms.specs.declared.answer.Answer.TheVariants.{Value, Fault}
use Rattle.dl_terms.specs.declared.answer.EvalFault.{EvalFault}
use Rattle.dl_terms.specs.declared.answer.EvalFault.TheVariants as why
use Rattle.dl_terms.specs.declared.term.Term.{Term}
use Rattle.dl_picture.specs.FaultPath.{at_item, ComesFrom, copies_after, copies_over, EndsWith, HasOwnFault, HasValue, IsLeftmost, IsOf}
use Rattle.dl_picture.specs.FaultPath.{LeadsTo, list_of, MayEndWith, Meets, parts_of}
use Rattle.dl_picture.specs.Seeking.{AreItems, AreTogether, FailsAs, FailsAtFirst, id_answer, ids_answer, IsAdded, IsItem, IsOver, IsTogether, MayBeItem, value_ending}
use Rattle.dl_picture.specs.declared.origin.Met.TheVariants as met
use Rattle.dl_picture.specs.declared.origin.Origin.{Origin}
use Rattle.dl_picture.specs.declared.origin.PathStep.{PathStep}
use Rattle.dl_picture.proofs.TermLoads.{left_is}

-- ---- answers together

-- the answers, if there are all of them
abbrev pub collected : List (Option Answer) → Option (List Answer)
collected [] = Some []
collected (o ∷ os) = both o (collected os)

-- the answer is the one of the ending
abbrev pub Fits : Option Answer → Result Data Origin → Type 0
Fits o (Ok d) = o ≡ Some (Value d)
Fits o (Err x) = o ≡ Some (Fault x.fault)

pub trees_collected : (known : Key → Option Outcome) (ts : List Tree) → answers known (trees_of ts) ≡ collected (map (answer known) ts)
trees_collected known [] = refl
trees_collected known (t ∷ ts) = ap (both (answer known t)) (trees_collected known ts)

pub mapped_collected : {X : Type 0} (known : Key → Option Outcome) (f : X → Tree) (xs : List X)
    → answers known (trees_of (map f xs)) ≡ collected (map (λ x. answer known (f x)) xs)
mapped_collected known f [] = refl
mapped_collected known f (x ∷ xs) = ap (both (answer known (f x))) (mapped_collected known f xs)

pub ids_collected : (known : Key → Option Outcome) (table : Name) (ids : List JsonValue)
    → target_answers known (item_targets table (items_view ids)) ≡ collected (map (id_answer known table) ids)
ids_collected known table [] = refl
ids_collected known table (i ∷ is) = ap (both (id_answer known table i)) (ids_collected known table is)

gather_values : (vs : List Data) → gather (map Value vs) ≡ Gathered.values (items_of vs)
gather_values [] = refl
gather_values (v ∷ vs) = ap (with_first v) (gather_values vs)

fit_values : (os : List (Option Answer)) (vs : List Data) → AllZip Fits os (map value_ending vs) → collected os ≡ Some (map Value vs)
fit_values [] [] z = refl
fit_values [] (v ∷ vs) z = absurd z
fit_values (o ∷ os) [] z = absurd z
fit_values (o ∷ os) (v ∷ vs) z = ap (λ x. both x (collected os)) z.0 ∙ ap (option_map (λ ls. Value v ∷ ls)) (fit_values os vs z.1)

fits_some : (o : Option Answer) (e : Result Data Origin) → Fits o e → (a : Answer) × (o ≡ Some a)
fits_some o (Ok d) h = (Value d, h)
fits_some o (Err x) h = (Fault x.fault, h)

ended_some : (os : List (Option Answer)) (es : List (Result Data Origin)) → AllZip Fits os es → (ls : List Answer) × (collected os ≡ Some ls)
ended_some [] [] z = ([], refl)
ended_some [] (e ∷ es) z = absurd z
ended_some (o ∷ os) [] z = absurd z
ended_some (o ∷ os) (e ∷ es) z =
    let rest = ended_some os es z.1 in
    let first = fits_some o e z.0 in
    (first.0 ∷ rest.0, ap (λ x. both x (collected os)) first.1 ∙ ap (option_map (λ ls. first.0 ∷ ls)) rest.1)

fault_in : (j : Joint) (d : Data) (g : Gathered) (f : EvalFault) → joined_as j g ≡ Fault f → joined_as j (with_first d g) ≡ Fault f
fault_in j d (Gathered.values ds) f e = absurd (let bad : Value (joined_data j ds) ≡ Fault f = e in cc)
fault_in j d (Gathered.fault h) f e = e

fit_fault : (j : Joint) (os : List (Option Answer)) (vs : List Data) (x : Origin) (rest : List (Result Data Origin))
    → AllZip Fits os (map value_ending vs ++ Err x ∷ rest) → (ls : List Answer) × (collected os ≡ Some ls) × (joined j ls ≡ Fault x.fault)
fit_fault j [] [] x rest z = absurd z
fit_fault j [] (v ∷ vs) x rest z = absurd z
fit_fault j (o ∷ os) [] x rest z =
    let more = ended_some os rest z.1 in
    (Fault x.fault ∷ more.0, ap (λ a. both a (collected os)) z.0 ∙ ap (option_map (λ ls. Fault x.fault ∷ ls)) more.1, refl)
fit_fault j (o ∷ os) (v ∷ vs) x rest z =
    let more = fit_fault j os vs x rest z.1 in
    (Value v ∷ more.0, ap (λ a. both a (collected os)) z.0 ∙ ap (option_map (λ ls. Value v ∷ ls)) more.1, fault_in j v (gather more.0) x.fault more.2)

-- values are what they are together
pub together_values : (j : Joint) (os : List (Option Answer)) (es : List (Result Data Origin)) (vs : List Data) → AllZip Fits os es → es ≡ map value_ending vs
    → option_map (joined j) (collected os) ≡ Some (Value (joined_data j (items_of vs)))
together_values j os es vs z is =
    ap (option_map (joined j)) (fit_values os vs (subst (AllZip Fits os) is z)) ∙ ap (λ g. Some (joined_as j g)) (gather_values vs)

-- and a fault behind values is the fault of all
pub together_fault : (j : Joint) (os : List (Option Answer)) (es : List (Result Data Origin)) (vs : List Data) (x : Origin) (rest : List (Result Data Origin))
    → AllZip Fits os es → es ≡ map value_ending vs ++ Err x ∷ rest → option_map (joined j) (collected os) ≡ Some (Fault x.fault)
together_fault j os es vs x rest z is =
    let h = fit_fault j os vs x rest (subst (AllZip Fits os) is z) in
    ap (option_map (joined j)) h.1 ∙ ap Some h.2

both_none : (p : Option Answer) (rest : Option (List Answer)) → rest ≡ None → both p rest ≡ None
both_none None rest is = refl
both_none (Some a) rest is = ap (option_map (λ ls. a ∷ ls)) is

collected_none : (front rest : List (Option Answer)) (o : Option Answer) → o ≡ None → collected (front ++ o ∷ rest) ≡ None
collected_none [] rest o is = ap (λ x. both x (collected rest)) is
collected_none (p ∷ front) rest o is = both_none p (collected (front ++ o ∷ rest)) (collected_none front rest o is)

-- if one of them waits, there aren't all
pub waits_at : {X : Type 0} (f : X → Option Answer) (xs : List X) (i : ℕ) (x : X) → i < length xs → x ≡ get_or xs i x → f x ≡ None → collected (map f xs) ≡ None
waits_at f xs i x lt is waits =
    ap (λ l. collected (map f l)) (sym (take-append-drop i xs) ∙ ap (λ l. take i xs ++ l) (left_is xs i x lt is))
    ∙ (ap collected (map-append f (take i xs) (x ∷ drop (i + 1) xs)) ∙ collected_none (map f (take i xs)) (map f (drop (i + 1) xs)) (f x) waits)

-- ---- the endings of terms

leads_faults : (known : Key → Option Outcome) (path : List PathStep) (t p : Tree) (f : EvalFault) → LeadsTo known path t p f → answer known t ≡ Some (Fault f)
leads_faults known [] t p f h = h.1.faults
leads_faults known (s ∷ path) t p f h = h.2

-- the term has the fault of its origin
pub faults_as : (known : Key → Option Outcome) (t : Tree) (o : Origin) → ComesFrom known t o → answer known t ≡ Some (Fault o.fault)
faults_as known t o h = leads_faults known (reverse o.path.items) t h.part o.fault h.path

ending_fits : (known : Key → Option Outcome) (t : Tree) (e : Result Data Origin) → EndsWith known t e → Fits (answer known t) e
ending_fits known t (Ok d) h = h
ending_fits known t (Err o) h = faults_as known t o h

pub endings_fit : (known : Key → Option Outcome) (ts : List Tree) (es : List (Result Data Origin)) → AllZip (EndsWith known) ts es → AllZip Fits (map (answer known) ts) es
endings_fit known [] [] z = tt
endings_fit known [] (e ∷ es) z = absurd z
endings_fit known (t ∷ ts) [] z = absurd z
endings_fit known (t ∷ ts) (e ∷ es) z = (ending_fits known t e z.0, endings_fit known ts es z.1)

-- the first fault is that of the leftmost part
pub record HasFirst (known : Key → Option Outcome) (ts : List Tree) (n : ℕ) (o : Origin) : Type 0 where
  pub before : List Tree
  pub part : Tree
  pub after : List Tree
  pub are : ts ≡ before ++ part ∷ after
  pub place : length before ≡ n
  pub values : Every (HasValue known) before
  pub comes : ComesFrom known part o

pub first_fault : (known : Key → Option Outcome) (ts : List Tree) (vs : List Data) (o : Origin) (rest : List (Result Data Origin))
    → AllZip (EndsWith known) ts (map value_ending vs ++ Err o ∷ rest) → HasFirst known ts (length vs) o
first_fault known [] [] o rest z = absurd z
first_fault known [] (v ∷ vs) o rest z = absurd z
first_fault known (t ∷ ts) [] o rest z = record { before = []; part = t; after = ts; are = refl; place = refl; values = tt; comes = z.0 }
first_fault known (t ∷ ts) (v ∷ vs) o rest z =
    let s = first_fault known ts vs o rest z.1 in
    record {
      before = t ∷ s.before;
      part = s.part;
      after = s.after;
      are = ap (λ l. t ∷ l) s.are;
      place = ap suc s.place;
      values = ((v, z.0), s.values);
      comes = s.comes;
    }

list_trees : (ts : List Tree) → list_of (trees_of ts) ≡ ts
list_trees [] = refl
list_trees (t ∷ ts) = ap (λ l. t ∷ l) (list_trees ts)

every_append : {X : Type 0} (P : X → Type 0) (xs ys : List X) → Every P xs → Every P ys → Every P (xs ++ ys)
every_append P [] ys h k = k
every_append P (x ∷ xs) ys h k = (h.0, every_append P xs ys h.1 k)

pub together_leftmost : (known : Key → Option Outcome) (t : Tree) (j : Joint) (n : ℕ) (ts : List Tree) (k : ℕ) (o : Origin) (first : HasFirst known ts k o)
    → IsTogether known t j n ts → IsLeftmost known t (n + k) first.part
together_leftmost known t j n ts k o first is = record {
  before = is.before ++ first.before;
  after = first.after;
  parts = is.parts ∙ (ap (λ l. is.before ++ l) first.are ∙ sym (append_assoc is.before first.before (first.part ∷ first.after)));
  place = length-append is.before first.before ∙ (ap (λ m. m + length first.before) is.place ∙ ap (λ m. n + m) first.place);
  values = every_append (HasValue known) is.before first.before is.values first.values;
}

answers_as : (known : Key → Option Outcome) (t : Tree) (j : Joint) (n : ℕ) (ts : List Tree) → IsTogether known t j n ts
    → answer known t ≡ option_map (joined j) (collected (map (answer known) ts))
answers_as known t j n ts is = is.gives ∙ ap (option_map (joined j)) (trees_collected known ts)

pub all_values : (known : Key → Option Outcome) (t : Tree) (j : Joint) (n : ℕ) (ts : List Tree) (es : List (Result Data Origin)) (vs : List Data) (d : Data)
    → IsTogether known t j n ts → AllZip (EndsWith known) ts es → es ≡ map value_ending vs → d ≡ joined_data j (items_of vs) → answer known t ≡ Some (Value d)
all_values known t j n ts es vs d is z are whole =
    answers_as known t j n ts is ∙ (together_values j (map (answer known) ts) es vs (endings_fit known ts es z) are ∙ ap (λ x. Some (Value x)) (sym whole))

pub all_faults : (known : Key → Option Outcome) (t : Tree) (j : Joint) (n : ℕ) (ts : List Tree) (es : List (Result Data Origin)) (vs : List Data) (o : Origin)
    (rest : List (Result Data Origin)) → IsTogether known t j n ts → AllZip (EndsWith known) ts es → es ≡ map value_ending vs ++ Err o ∷ rest
    → answer known t ≡ Some (Fault o.fault)
all_faults known t j n ts es vs o rest is z are =
    answers_as known t j n ts is ∙ together_fault j (map (answer known) ts) es vs o rest (endings_fit known ts es z) are

-- one waits
pub together_waits : (known : Key → Option Outcome) (t : Tree) (j : Joint) (n : ℕ) (ts : List Tree) → IsTogether known t j n ts
    → answers known (trees_of ts) ≡ None → answer known t ≡ None
together_waits known t j n ts is none = is.gives ∙ ap (option_map (joined j)) none

-- the part from which the fault of all comes
pub all_first : (known : Key → Option Outcome) (ts : List Tree) (es : List (Result Data Origin)) (vs : List Data) (o : Origin) (rest : List (Result Data Origin)) (n : ℕ)
    → AllZip (EndsWith known) ts es → es ≡ map value_ending vs ++ Err o ∷ rest → length vs ≡ n → HasFirst known ts n o
all_first known ts es vs o rest n z are long =
    subst (λ k. HasFirst known ts k o) long (first_fault known ts vs o rest (subst (AllZip (EndsWith known) ts) are z))

-- ---- terms over one part

pub over_pick : (known : Key → Option Outcome) (t q : Tree) (field : Name) → t ≡ pick q field → IsOver known t q
over_pick known t q field is = record {
  rest = [];
  parts = ap (parts_of known) is;
  waits = λ w. ap (answer known) is ∙ ap (option_map (picked field)) w;
  fails = λ f h. ap (answer known) is ∙ ap (option_map (picked field)) h;
}

pub over_follow : (known : Key → Option Outcome) (t q : Tree) (field table : Name) → t ≡ follow q field table → IsOver known t q
over_follow known t q field table is = record {
  rest = [];
  parts = ap (parts_of known) is;
  waits = λ w. ap (answer known) is ∙ ap (option_and_then (λ a. target_answer known (target_in table (picked field a)))) w;
  fails = λ f h. ap (answer known) is ∙ ap (option_and_then (λ a. target_answer known (target_in table (picked field a)))) h;
}

pub over_each : (known : Key → Option Outcome) (t q : Tree) (field table : Name) → t ≡ each q field table → IsOver known t q
over_each known t q field table is = record {
  rest = [];
  parts = ap (parts_of known) is;
  waits = λ w. ap (answer known) is ∙ ap (option_and_then (λ a. targets_answer known (targets_in table (picked field a)))) w;
  fails = λ f h. ap (answer known) is ∙ ap (option_and_then (λ a. targets_answer known (targets_in table (picked field a)))) h;
}

pub over_over : (known : Key → Option Outcome) (t q body : Tree) → t ≡ over q body → IsOver known t q
over_over known t q body is = record {
  rest = list_of (copies_after body (answer known q));
  parts = ap (parts_of known) is;
  waits = λ w. ap (answer known) is ∙ ap (option_and_then (λ a. copies_answer (λ d. answer_at known (Some d) body) (listed a))) w;
  fails = λ f h. ap (answer known) is ∙ ap (option_and_then (λ a. copies_answer (λ d. answer_at known (Some d) body) (listed a))) h;
}

pub first_leftmost : (known : Key → Option Outcome) (t q : Tree) → IsOver known t q → IsLeftmost known t 0 q
first_leftmost known t q goes = record { before = []; after = goes.rest; parts = goes.parts; place = refl; values = tt }

-- one step more leads to the same part
pub leads_above : (known : Key → Option Outcome) (t q p : Tree) (f : EvalFault) (path more : List PathStep) (s : PathStep) → more ≡ path ++ s ∷ [] → IsOf t s.term.now
    → answer known t ≡ Some (Fault f) → IsLeftmost known t s.part q → LeadsTo known (reverse path) q p f → LeadsTo known (reverse more) t p f
leads_above known t q p f path more s pushed is faults leftmost leads =
    subst (λ l. LeadsTo known l t p f) (sym (ap reverse pushed ∙ reverse-append path (s ∷ []))) (q, is, faults, leftmost, leads)

-- ---- faults of a term's own

pub own_comes : (known : Key → Option Outcome) (t : Tree) (o : Origin) → IsOf t o.part.now → o.path.items ≡ [] → HasOwnFault known t o.fault → Meets known t o.fault o.met
    → ComesFrom known t o
own_comes known t o whose none own meets = record {
  part = t;
  whose = whose;
  path = subst (λ l. LeadsTo known (reverse l) t t o.fault) (sym none) (refl, own);
  met = meets;
}

-- the one part has this value
one_value : (known : Key → Option Outcome) (t q : Tree) (d : Data) → parts_of known t ≡ q ∷ [] → answer known q ≡ Some (Value d) → Every (HasValue known) (parts_of known t)
one_value known t q d only has = subst (Every (HasValue known)) (sym only) ((d, has), tt)

-- an origin without steps, which is the term's own
pub record IsOwn (t : Tree) (o : Origin) : Type 0 where
  pub part : IsOf t o.part.now
  pub path : o.path.items ≡ []

pub own_is : (t : Tree) (term : Term) (o : Origin) → IsOf t term → o.part.now ≡ term → o.path.items ≡ [] → IsOwn t o
own_is t term o is part path = record { part = subst (IsOf t) (sym part) is; path = path }

pub load_fails : (known : Key → Option Outcome) (t : Tree) (k : Key) (o : Origin) → IsOwn t o → t ≡ load k → answer known (load k) ≡ Some (Fault o.fault) → o.met ≡ met.Outcome
    → ComesFrom known t o
load_fails known t k o own is faults met_is =
    own_comes known t o own.part own.path
    (record { faults = ap (answer known) is ∙ faults; parts = subst (Every (HasValue known)) (sym (ap (parts_of known) is)) tt })
    (subst (λ u. Meets known u o.fault o.met) (sym is) met_is)

-- what a pick of a value finds
pub pick_has : (known : Key → Option Outcome) (t q : Tree) (field : Name) (d : Data) (x : Option Data) → answer known q ≡ Some (Value d) → t ≡ pick q field → get field d ≡ x
    → answer known t ≡ Some (field_or x)
pick_has known t q field d x has is found =
    ap (answer known) is ∙ (ap (option_map (picked field)) has ∙ ap (λ g. Some (field_or g)) found)

pub follow_has : (known : Key → Option Outcome) (t q : Tree) (field table : Name) (d : Data) (x : Option Data) → answer known q ≡ Some (Value d) → t ≡ follow q field table
    → get field d ≡ x → answer known t ≡ target_answer known (target_in table (field_or x))
follow_has known t q field table d x has is found =
    ap (answer known) is
    ∙ (ap (option_and_then (λ a. target_answer known (target_in table (picked field a)))) has ∙ ap (λ g. target_answer known (target_in table (field_or g))) found)

pub each_has : (known : Key → Option Outcome) (t q : Tree) (field table : Name) (d : Data) (x : Option Data) → answer known q ≡ Some (Value d) → t ≡ each q field table
    → get field d ≡ x → answer known t ≡ targets_answer known (targets_in table (field_or x))
each_has known t q field table d x has is found =
    ap (answer known) is
    ∙ (ap (option_and_then (λ a. targets_answer known (targets_in table (picked field a)))) has ∙ ap (λ g. targets_answer known (targets_in table (field_or g))) found)

fault_same : (known : Key → Option Outcome) (t : Tree) (f : EvalFault) (o : Origin) → o.fault ≡ f → answer known t ≡ Some (Fault f) → answer known t ≡ Some (Fault o.fault)
fault_same known t f o same h = h ∙ ap (λ g. Some (Fault g)) (sym same)

pub pick_lacks : (known : Key → Option Outcome) (t q : Tree) (field : Name) (d : Data) (o : Origin) → IsOwn t o → answer known q ≡ Some (Value d) → t ≡ pick q field
    → get field d ≡ None → o.fault ≡ why.NoField → o.met ≡ met.Whole d → ComesFrom known t o
pick_lacks known t q field d o own has is missing same met_is =
    own_comes known t o own.part own.path
    (record { faults = fault_same known t why.NoField o same (pick_has known t q field d None has is missing); parts = one_value known t q d (ap (parts_of known) is) has })
    (subst (λ u. Meets known u o.fault o.met) (sym is) (d, has, (missing, met_is)))

pub follow_lacks : (known : Key → Option Outcome) (t q : Tree) (field table : Name) (d : Data) (o : Origin) → IsOwn t o → answer known q ≡ Some (Value d) → t ≡ follow q field table
    → get field d ≡ None → o.fault ≡ why.NoField → o.met ≡ met.Whole d → ComesFrom known t o
follow_lacks known t q field table d o own has is missing same met_is =
    own_comes known t o own.part own.path
    (record { faults = fault_same known t why.NoField o same (follow_has known t q field table d None has is missing); parts = one_value known t q d (ap (parts_of known) is) has })
    (subst (λ u. Meets known u o.fault o.met) (sym is) (d, has, inl (missing, met_is)))

pub follow_fails : (known : Key → Option Outcome) (t q : Tree) (field table : Name) (d x : Data) (v : JsonValue) (o : Origin) → IsOwn t o → answer known q ≡ Some (Value d)
    → t ≡ follow q field table → get field d ≡ Some x → target_answer known (value_target table x) ≡ Some (Fault o.fault) → view v ≡ x → o.met ≡ met.Field v
    → ComesFrom known t o
follow_fails known t q field table d x v o own has is found fails shown met_is =
    own_comes known t o own.part own.path
    (record { faults = follow_has known t q field table d (Some x) has is found ∙ fails; parts = one_value known t q d (ap (parts_of known) is) has })
    (subst (λ u. Meets known u o.fault o.met) (sym is) (d, has, inr (v, found ∙ ap Some (sym shown), met_is)))

pub each_lacks : (known : Key → Option Outcome) (t q : Tree) (field table : Name) (d : Data) (o : Origin) → IsOwn t o → answer known q ≡ Some (Value d) → t ≡ each q field table
    → get field d ≡ None → o.fault ≡ why.NoField → o.met ≡ met.Whole d → ComesFrom known t o
each_lacks known t q field table d o own has is missing same met_is =
    own_comes known t o own.part own.path
    (record { faults = fault_same known t why.NoField o same (each_has known t q field table d None has is missing); parts = one_value known t q d (ap (parts_of known) is) has })
    (subst (λ u. Meets known u o.fault o.met) (sym is) (d, has, inl (missing, met_is)))

-- the field has a value that is no list of ids
pub each_no_ids : (known : Key → Option Outcome) (t q : Tree) (field table : Name) (d x : Data) (v : JsonValue) (f : EvalFault) (o : Origin) → IsOwn t o
    → answer known q ≡ Some (Value d) → t ≡ each q field table → get field d ≡ Some x → list_targets table (as_array x) ≡ Targets.none f → o.fault ≡ f → view v ≡ x
    → o.met ≡ met.Field v → ComesFrom known t o
each_no_ids known t q field table d x v f o own has is found none same shown met_is =
    own_comes known t o own.part own.path
    (record {
      faults = fault_same known t f o same (each_has known t q field table d (Some x) has is found ∙ ap (targets_answer known) none);
      parts = one_value known t q d (ap (parts_of known) is) has;
    })
    (subst (λ u. Meets known u o.fault o.met) (sym is)
    (d, has, inr (inl ((v, found ∙ ap Some (sym shown), met_is), ap (λ g. targets_in table (field_or g)) found ∙ (none ∙ ap Targets.none (sym same))))))

-- ---- an over, and other parts that answer together

module _ (known : Key → Option Outcome) (t q body : Tree) (d : Data) (x : Listed) (has : answer known q ≡ Some (Value d)) (is : t ≡ over q body) (found : listed (Value d) ≡ x) where
  over_has : answer known t ≡ copies_answer (λ e. answer_at known (Some e) body) x
  over_has =
      ap (answer known) is
      ∙ (ap (option_and_then (λ a. copies_answer (λ e. answer_at known (Some e) body) (listed a))) has
      ∙ ap (copies_answer (λ e. answer_at known (Some e) body)) found)

  over_parts : parts_of known t ≡ q ∷ list_of (copies_over body x)
  over_parts = ap (parts_of known) is ∙ (ap (λ a. q ∷ list_of (copies_after body a)) has ∙ ap (λ l. q ∷ list_of (copies_over body l)) found)

-- the part gives no list to go over
pub over_fails : (known : Key → Option Outcome) (t q body : Tree) (d : Data) (f : EvalFault) (o : Origin) → IsOwn t o → answer known q ≡ Some (Value d)
    → t ≡ over q body → listed (Value d) ≡ Listed.none f → o.fault ≡ f → o.met ≡ met.Whole d → ComesFrom known t o
over_fails known t q body d f o own has is none same met_is =
    own_comes known t o own.part own.path
    (record {
      faults = fault_same known t f o same (over_has known t q body d (Listed.none f) has is none);
      parts = one_value known t q d (over_parts known t q body d (Listed.none f) has is none) has;
    })
    (subst (λ u. Meets known u o.fault o.met) (sym is) (d, has, none ∙ ap Listed.none (sym same), met_is))

copies_listed : (body : Tree) (vs : List Data) → list_of (copies body (items_of vs)) ≡ map (λ v. with_item v body) vs
copies_listed body [] = refl
copies_listed body (v ∷ vs) = ap (λ l. with_item v body ∷ l) (copies_listed body vs)

copies_trees : (body : Tree) (vs : List Data) → copies body (items_of vs) ≡ trees_of (map (λ v. with_item v body) vs)
copies_trees body [] = refl
copies_trees body (v ∷ vs) = ap (tree (with_item v body)) (copies_trees body vs)

-- it answers what the copies of its body do together
pub over_together : (known : Key → Option Outcome) (t q body : Tree) (d : Data) (vs : List Data) → answer known q ≡ Some (Value d) → t ≡ over q body
    → listed (Value d) ≡ Listed.items (items_of vs) → IsTogether known t listing 1 (map (λ v. with_item v body) vs)
over_together known t q body d vs has is found = record {
  before = q ∷ [];
  parts = over_parts known t q body d (Listed.items (items_of vs)) has is found ∙ ap (λ l. q ∷ l) (copies_listed body vs);
  place = refl;
  values = ((d, has), tt);
  gives = over_has known t q body d (Listed.items (items_of vs)) has is found
      ∙ ap (option_map gathered) (copies_given known body (items_of vs) ∙ ap (answers known) (copies_trees body vs));
}

pub all_together : (known : Key → Option Outcome) (t : Tree) (ts : List Tree) → t ≡ all (trees_of ts) → IsTogether known t listing 0 ts
all_together known t ts is = record { before = []; parts = ap (parts_of known) is ∙ list_trees ts; place = refl; values = tt; gives = ap (answer known) is }

pub named_together : (known : Key → Option Outcome) (t : Tree) (names : List Name) (ts : List Tree) → t ≡ named names (trees_of ts)
    → IsTogether known t (naming names) 0 ts
named_together known t names ts is =
    record { before = []; parts = ap (parts_of known) is ∙ list_trees ts; place = refl; values = tt; gives = ap (answer known) is }

-- ---- the item in its place, form by form

pub at_ended : (i : Option Data) (a : Answer) → at_item i (ended a) ≡ ended a
at_ended None a = refl
at_ended (Some d) a = refl

pub at_load : (i : Option Data) (k : Key) → at_item i (load k) ≡ load k
at_load None k = refl
at_load (Some d) k = refl

pub at_pick : (i : Option Data) (q : Tree) (field : Name) → at_item i (pick q field) ≡ pick (at_item i q) field
at_pick None q field = refl
at_pick (Some d) q field = refl

pub at_follow : (i : Option Data) (q : Tree) (field table : Name) → at_item i (follow q field table) ≡ follow (at_item i q) field table
at_follow None q field table = refl
at_follow (Some d) q field table = refl

pub at_each : (i : Option Data) (q : Tree) (field table : Name) → at_item i (each q field table) ≡ each (at_item i q) field table
at_each None q field table = refl
at_each (Some d) q field table = refl

pub at_over : (i : Option Data) (q body : Tree) → at_item i (over q body) ≡ over (at_item i q) body
at_over None q body = refl
at_over (Some d) q body = refl

all_at : (d : Data) (terms : List Term) → with_item_all d (terms_view terms) ≡ trees_of (map (λ x. with_item d (term_view x)) terms)
all_at d [] = refl
all_at d (x ∷ xs) = ap (tree (with_item d (term_view x))) (all_at d xs)

pub at_all : (i : Option Data) (terms : List Term) → at_item i (all (terms_view terms)) ≡ all (trees_of (map (λ x. at_item i (term_view x)) terms))
at_all None terms = refl
at_all (Some d) terms = ap all (all_at d terms)

pub at_named : (i : Option Data) (names : List Name) (terms : List Term)
    → at_item i (named names (terms_view terms)) ≡ named names (trees_of (map (λ x. at_item i (term_view x)) terms))
at_named None names terms = refl
at_named (Some d) names terms = ap (named names) (all_at d terms)

-- an item in no body
pub item_fails : (known : Key → Option Outcome) (o : Origin) → IsOwn the_item o → o.fault ≡ why.NoItem → o.met ≡ met.Nothing → ComesFrom known the_item o
item_fails known o own same met_is =
    own_comes known the_item o own.part own.path (record { faults = ap (λ f. Some (Fault f)) (sym same); parts = tt }) met_is

-- ---- the ids of an each

item_fits : (known : Key → Option Outcome) (term : Term) (table : Name) (place : ℕ) (id : JsonValue) (e : Result Data Origin) → IsItem known term table place id e
    → Fits (id_answer known table id) e
item_fits known term table place id (Ok d) h = h
item_fits known term table place id (Err o) h = h.faults

pub items_fit : (known : Key → Option Outcome) (term : Term) (table : Name) (place : ℕ) (ids : List JsonValue) (es : List (Result Data Origin))
    → AreItems known term table place ids es → AllZip Fits (map (id_answer known table) ids) es
items_fit known term table place [] [] z = tt
items_fit known term table place [] (e ∷ es) z = absurd z
items_fit known term table place (i ∷ is) [] z = absurd z
items_fit known term table place (i ∷ is) (e ∷ es) z = (item_fits known term table place i e z.0, items_fit known term table (suc place) is es z.1)

-- the first of the ids that fails, from this place on
record HasFirstId (known : Key → Option Outcome) (term : Term) (table : Name) (place : ℕ) (ids : List JsonValue) (o : Origin) : Type 0 where
  pub before : List JsonValue
  pub id : JsonValue
  pub after : List JsonValue
  pub are : ids ≡ before ++ id ∷ after
  pub values : Every (λ i. (row : Data) × (id_answer known table i ≡ Some (Value row))) before
  pub own : FailsAs known term table (place + length before) id o

first_id : (known : Key → Option Outcome) (term : Term) (table : Name) (place : ℕ) (ids : List JsonValue) (vs : List Data) (o : Origin) (rest : List (Result Data Origin))
    → AreItems known term table place ids (map value_ending vs ++ Err o ∷ rest) → HasFirstId known term table place ids o
first_id known term table place [] [] o rest z = absurd z
first_id known term table place [] (v ∷ vs) o rest z = absurd z
first_id known term table place (i ∷ is) [] o rest z =
    let same : place ≡ place + length {A = JsonValue} [] = omega arith in
    record { before = []; id = i; after = is; are = refl; values = tt; own = subst (λ n. FailsAs known term table n i o) same z.0 }
first_id known term table place (i ∷ is) (v ∷ vs) o rest z =
    let s = first_id known term table (suc place) is vs o rest z.1 in
    let same : suc place + length s.before ≡ place + length (i ∷ s.before) = omega arith in
    record {
      before = i ∷ s.before;
      id = s.id;
      after = s.after;
      are = ap (λ l. i ∷ l) s.are;
      values = ((v, z.0), s.values);
      own = subst (λ n. FailsAs known term table n s.id o) same s.own;
    }

pub fails_first : (known : Key → Option Outcome) (term : Term) (table : Name) (ids : List JsonValue) (es : List (Result Data Origin)) (vs : List Data) (o : Origin)
    (rest : List (Result Data Origin)) → AreItems known term table 0 ids es → es ≡ map value_ending vs ++ Err o ∷ rest → FailsAtFirst known term table ids o
fails_first known term table ids es vs o rest are is =
    let s = first_id known term table 0 ids vs o rest (subst (AreItems known term table 0 ids) is are) in
    let same : 0 + length s.before ≡ length s.before = omega arith in
    record {
      whole = ap (option_map gathered) (ids_collected known table ids)
          ∙ together_fault listing (map (id_answer known table) ids) es vs o rest (items_fit known term table 0 ids es are) is;
      before = s.before;
      id = s.id;
      after = s.after;
      are = s.are;
      values = s.values;
      own = subst (λ n. FailsAs known term table n s.id o) same s.own;
    }

-- one id more
pub items_next : (known : Key → Option Outcome) (term : Term) (table : Name) (place : ℕ) (ids : List JsonValue) (es : List (Result Data Origin)) (id : JsonValue)
    (e : Result Data Origin) → AreItems known term table place ids es → IsItem known term table (place + length ids) id e
    → AreItems known term table place (ids ++ id ∷ []) (es ++ e ∷ [])
items_next known term table place [] [] id e z is =
    let same : place + length {A = JsonValue} [] ≡ place = omega arith in
    (subst (λ n. IsItem known term table n id e) same is, tt)
items_next known term table place [] (x ∷ es) id e z is = absurd z
items_next known term table place (i ∷ is) [] id e z h = absurd z
items_next known term table place (i ∷ is) (x ∷ es) id e z h =
    let same : place + length (i ∷ is) ≡ suc place + length is = omega arith in
    (z.0, items_next known term table (suc place) is es id e z.1 (subst (λ n. IsItem known term table n id e) same h))

-- the ids as trees
every_view : (known : Key → Option Outcome) (table : Name) (ids : List JsonValue) → Every (λ i. (row : Data) × (id_answer known table i ≡ Some (Value row))) ids
    → Every (λ i. (row : Data) × (target_answer known (value_target table i) ≡ Some (Value row))) (map view ids)
every_view known table [] h = tt
every_view known table (i ∷ is) h = (h.0, every_view known table is h.1)

pub each_item_fails : (known : Key → Option Outcome) (t : Tree) (term : Term) (q : Tree) (field table : Name) (d x : Data) (ids : List JsonValue) (o : Origin)
    → IsOf t term → answer known q ≡ Some (Value d) → t ≡ each q field table → get field d ≡ Some x → Some (items_view ids) ≡ as_array x
    → list_targets table (as_array x) ≡ Targets.keys (item_targets table (items_view ids)) → FailsAtFirst known term table ids o → ComesFrom known t o
each_item_fails known t term q field table d x ids o whose has is found list few first =
    let own = own_is t term o whose first.own.part first.own.path in
    let v = first.own.met.0 in
    let shown : view first.id ≡ view v = sym first.own.met.1 in
    let front = map view first.before in
    let are : map view ids ≡ front ++ view v ∷ map view first.after =
    ap (map view) first.are ∙ (map-append view first.before (first.id ∷ first.after) ∙ ap (λ y. front ++ y ∷ map view first.after) shown) in
    own_comes known t o own.part own.path
    (record {
      faults = each_has known t q field table d (Some x) has is found ∙ (ap (targets_answer known) few ∙ first.whole);
      parts = one_value known t q d (ap (parts_of known) is) has;
    })
    (subst (λ u. Meets known u o.fault o.met) (sym is) (
      d,
      has,
      inr (inr (
        x,
        found,
        record {
          before = front;
          item = v;
          after = map view first.after;
          list = sym list ∙ ap (λ l. Some (items_of l)) are;
          faults = ap (λ y. target_answer known (value_target table y)) (sym shown) ∙ first.own.faults;
          values = every_view known table first.before first.values;
          met = first.own.met.2 ∙ ap (λ n. met.Item n v) (sym (length_map view first.before));
        },
      )),
    ))
  where
    length_map : {A B : Type 0} (f : A → B) (xs : List A) → length (map f xs) ≡ length xs
    length_map f [] = refl
    length_map f (x ∷ xs) = ap suc (length_map f xs)

-- what the loads of the ids end with, the each ends with
pub each_together : (known : Key → Option Outcome) (t : Tree) (term : Term) (q : Tree) (field table : Name) (d x : Data) (ids : List JsonValue)
    (ending : Option (Result Data Origin)) → IsOf t term → answer known q ≡ Some (Value d) → t ≡ each q field table → get field d ≡ Some x
    → Some (items_view ids) ≡ as_array x → list_targets table (as_array x) ≡ Targets.keys (item_targets table (items_view ids))
    → AreTogether known term table ids ending → MayEndWith known t ending
each_together known t term q field table d x ids None whose has is found list few h =
    each_has known t q field table d (Some x) has is found ∙ (ap (targets_answer known) few ∙ h)
each_together known t term q field table d x ids (Some (Ok v)) whose has is found list few h =
    each_has known t q field table d (Some x) has is found ∙ (ap (targets_answer known) few ∙ h)
each_together known t term q field table d x ids (Some (Err o)) whose has is found list few h =
    each_item_fails known t term q field table d x ids o whose has is found list few h

pub ids_values : (known : Key → Option Outcome) (term : Term) (table : Name) (ids : List JsonValue) (es : List (Result Data Origin)) (vs : List Data) (d : Data)
    → AreItems known term table 0 ids es → es ≡ map value_ending vs → d ≡ joined_data listing (items_of vs) → ids_answer known table ids ≡ Some (Value d)
ids_values known term table ids es vs d are is list =
    ap (option_map gathered) (ids_collected known table ids)
    ∙ (together_values listing (map (id_answer known table) ids) es vs (items_fit known term table 0 ids es are) is ∙ ap (λ x. Some (Value x)) (sym list))

-- ---- one step of a loop that takes the values out

pub left_next : (whole done left rest : List (Result Data Origin)) (e : Result Data Origin) → whole ≡ done ++ left → left ≡ e ∷ rest → whole ≡ (done ++ e ∷ []) ++ rest
left_next whole done left rest e h s = h ∙ (ap (λ l. done ++ l) s ∙ sym (append_assoc done (e ∷ []) rest))

pub values_next : (es : List (Result Data Origin)) (vs more : List Data) (e : Result Data Origin) (v : Data) → es ≡ map value_ending vs → e ≡ Ok v → more ≡ vs ++ v ∷ []
    → es ++ e ∷ [] ≡ map value_ending more
values_next es vs more e v h is pushed =
    ap (λ l. l ++ e ∷ []) h
    ∙ (ap (λ x. map value_ending vs ++ x ∷ []) is ∙ (sym (map-append value_ending vs (v ∷ [])) ∙ ap (map value_ending) (sym pushed)))

pub fault_behind_values : (whole es rest : List (Result Data Origin)) (vs : List Data) (e : Result Data Origin) (o : Origin) → whole ≡ es ++ (e ∷ rest) → es ≡ map value_ending vs
    → e ≡ Err o → whole ≡ map value_ending vs ++ Err o ∷ rest
fault_behind_values whole es rest vs e o are h is = are ∙ (ap (λ l. l ++ (e ∷ rest)) h ∙ ap (λ x. map value_ending vs ++ x ∷ rest) is)

-- as many values as are in front of one ending more
pub behind_few : (es : List (Result Data Origin)) (vs : List Data) (e : Result Data Origin) (rest : List (Result Data Origin)) → es ≡ map value_ending vs ++ e ∷ rest
    → length vs + 1 ≤ length es
behind_few es vs e rest are = omega (arith, ap length are, length-append (map value_ending vs) (e ∷ rest), length-map vs value_ending)

-- ---- one step of a loop over parts

pub items_push : (known : Key → Option Outcome) (term : Term) (table : Name) (ids : List JsonValue) (i : ℕ) (x : JsonValue) → i < length ids → x ≡ get_or ids i x
    → (es more : List (Result Data Origin)) (e : Result Data Origin) → AreItems known term table 0 (take i ids) es → IsItem known term table i x e → more ≡ es ++ e ∷ []
    → AreItems known term table 0 (take (i + 1) ids) more
items_push known term table ids i x lt is es more e h own pushed =
    let long : i ≡ 0 + length (take i ids) = omega (arith, length-take i ids) in
    let front : take (i + 1) ids ≡ take i ids ++ x ∷ [] = take_more ids i x lt ∙ ap (λ y. take i ids ++ y ∷ []) (sym is) in
    subst (λ l. AreItems known term table 0 l more) (sym front)
    (subst (λ l. AreItems known term table 0 (take i ids ++ x ∷ []) l) (sym pushed)
    (items_next known term table 0 (take i ids) es x e h (subst (λ n. IsItem known term table n x e) long own)))

pub endings_push : {X : Type 0} (known : Key → Option Outcome) (f : X → Tree) (xs : List X) (i : ℕ) (x : X) → i < length xs → x ≡ get_or xs i x
    → (es more : List (Result Data Origin)) (e : Result Data Origin) → AllZip (EndsWith known) (map f (take i xs)) es → EndsWith known (f x) e
    → more ≡ es ++ e ∷ [] → AllZip (EndsWith known) (map f (take (i + 1) xs)) more
endings_push known f xs i x lt is es more e h own pushed =
    let before = map f (take i xs) in
    let front : map f (take (i + 1) xs) ≡ before ++ f x ∷ [] =
    ap (map f) (take_more xs i x lt ∙ ap (λ y. take i xs ++ y ∷ []) (sym is)) ∙ map-append f (take i xs) (x ∷ []) in
    subst (λ l. AllZip (EndsWith known) l more) (sym front)
    (subst (λ l. AllZip (EndsWith known) (before ++ f x ∷ []) l) (sym pushed) (zip_push (EndsWith known) before es (f x) e h own))

-- ---- one step of a loop over parts of which one may wait

pub items_add : (known : Key → Option Outcome) (term : Term) (table : Name) (ids : List JsonValue) (i : ℕ) (x : JsonValue) → i < length ids → x ≡ get_or ids i x
    → (before : Option (Vec (Result Data Origin) Global)) (e : Option (Result Data Origin)) (more : Option (Vec (Result Data Origin) Global))
    → IfSome before (λ es. AreItems known term table 0 (take i ids) es.items)
    → IfNone before (target_answers known (item_targets table (items_view ids)) ≡ None) → MayBeItem known term table i x e → IsAdded before e more
    → IfSome more (λ es. AreItems known term table 0 (take (i + 1) ids) es.items)
    × IfNone more (target_answers known (item_targets table (items_view ids)) ≡ None)
items_add known term table ids i x lt is None e None are waits own added = (tt, waits)
items_add known term table ids i x lt is None e (Some ms) are waits own added = absurd added
items_add known term table ids i x lt is (Some es) None None are waits own added =
    (tt, ids_collected known table ids ∙ waits_at (id_answer known table) ids i x lt is own)
items_add known term table ids i x lt is (Some es) None (Some ms) are waits own added = absurd added
items_add known term table ids i x lt is (Some es) (Some e) None are waits own added = absurd added
items_add known term table ids i x lt is (Some es) (Some e) (Some ms) are waits own added =
    (items_push known term table ids i x lt is es.items ms.items e are own added, tt)

pub endings_add : {X : Type 0} (known : Key → Option Outcome) (f : X → Tree) (xs : List X) (i : ℕ) (x : X) → i < length xs → x ≡ get_or xs i x
    → (before : Option (Vec (Result Data Origin) Global)) (e : Option (Result Data Origin)) (more : Option (Vec (Result Data Origin) Global))
    → IfSome before (λ es. AllZip (EndsWith known) (map f (take i xs)) es.items) → IfNone before (answers known (trees_of (map f xs)) ≡ None)
    → MayEndWith known (f x) e → IsAdded before e more
    → IfSome more (λ es. AllZip (EndsWith known) (map f (take (i + 1) xs)) es.items) × IfNone more (answers known (trees_of (map f xs)) ≡ None)
endings_add known f xs i x lt is None e None are waits own added = (tt, waits)
endings_add known f xs i x lt is None e (Some ms) are waits own added = absurd added
endings_add known f xs i x lt is (Some es) None None are waits own added =
    (tt, mapped_collected known f xs ∙ waits_at (λ y. answer known (f y)) xs i x lt is own)
endings_add known f xs i x lt is (Some es) None (Some ms) are waits own added = absurd added
endings_add known f xs i x lt is (Some es) (Some e) None are waits own added = absurd added
endings_add known f xs i x lt is (Some es) (Some e) (Some ms) are waits own added = (endings_push known f xs i x lt is es.items ms.items e are own added, tt)

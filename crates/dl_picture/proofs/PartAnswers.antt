-- What parts of terms ask for.
use Rattle.std.proofs.Common.{◌≡◌, ◌∙◌, ap, sym, refl, ℕ, ◌+◌, ◌<◌, ◌≤◌, List, [], ◌∷◌, length, drop, get_or, Option, Some, None, arith, rules}
use Rattle.std.specs.Prelude.{Result, Ok, Err, IfOk, OnOk}
use Rattle.std.proofs.lemmas.List.{drop_all, drop_more}
use Rattle.serde_json.specs.Data.{Data}
use Rattle.serde_json.specs.Find.{get}
use Rattle.dl_terms.specs.TermAnswers.{answer, answer_at, field_or, picked, targets_in}
use Rattle.dl_terms.specs.Tree.{Name, Tree, ended, load}
use Rattle.dl_terms.specs.View.{term_view}
use Rattle.dl_terms.specs.declared.term.Term.{the_lemmas}
use Rattle.dl_terms.specs.declared.term.Term.TheVariants as form
use Rattle.dl_terms.specs.declared.answer.Answer.{Answer}
use Rattle.dl_terms.specs.declared.answer.Answer.TheVariants.{Value, Fault}
use Rattle.dl_terms.specs.declared.answer.EvalFault.{EvalFault}
use Rattle.dl_terms.proofs.Substitution.{substituted}
use Rattle.dl_values.specs.Key.{Key}
use Rattle.dl_values.specs.declared.outcome.Outcome.{Outcome}
use Rattle.dl_picture.specs.FaultPath.{at_item, MayEndWith}
use Rattle.dl_picture.specs.Seeking.{loads_of_value, value_of}
use Rattle.dl_picture.specs.TermLoads.{loads_after, loads_at, targets_loads}
use Rattle.dl_picture.specs.declared.origin.Origin.{Origin}
use Rattle.dl_picture.proofs.FaultOrigins.{faults_as}

pub if_ok : {X E : Type 0} (r : Result X E) (P Q : X → Type 0) → ((x : X) → P x → Q x) → IfOk r P → IfOk r Q
if_ok (Ok x) P Q f h = f x h
if_ok (Err e) P Q f h = h

pub on_ok : {X E : Type 0} (r : Result X E) (P : Type 0) → P → OnOk r P
on_ok (Ok x) P h = h
on_ok (Err e) P h = tt

-- ---- one step of a loop over parts

module _ {A : Type 0} (xs : List A) (i : ℕ) (x : A) (lt : i < length xs) (is : x ≡ get_or xs i x) where
  front : drop i xs ≡ x ∷ drop (i + 1) xs
  front = drop_more xs i x lt ∙ ap (λ z. z ∷ drop (i + 1) xs) (sym is)

  -- what the rest asks for, after x has
  pub loads_next : (whole : List A → ℕ) (own : ℕ) → ((rest : List A) → whole (x ∷ rest) ≡ own + whole rest) → (so_far more total : ℕ)
      → so_far + whole (drop i xs) ≡ total → more ≡ so_far + own → more + whole (drop (i + 1) xs) ≡ total
  loads_next whole own split so_far more total held is_more =
      let step : whole (drop i xs) ≡ own + whole (drop (i + 1) xs) = ap whole front ∙ split (drop (i + 1) xs) in
      omega (arith, step, held, is_more)

-- all are done
pub loads_done : {A : Type 0} (xs : List A) (i : ℕ) → length xs ≤ i → (whole : List A → ℕ) → whole [] ≡ 0 → (n total : ℕ) → n + whole (drop i xs) ≡ total → n ≡ total
loads_done xs i past whole none n total held =
    let left : whole (drop i xs) ≡ 0 = ap whole (drop_all i xs past) ∙ none in
    omega (arith, left, held)

-- ---- what goes on from a part

pub answer_with : (known : Key → Option Outcome) (i : Option Data) (t : Tree) → answer_at known i t ≡ answer known (at_item i t)
answer_with known None t = refl
answer_with known (Some d) t = (substituted known).given d t

-- only a value goes on
pub on_value : (known : Key → Option Outcome) (t : Tree) (ending : Option (Result Data Origin)) (next : Answer → ℕ) → MayEndWith known t ending
    → ((f : EvalFault) → next (Fault f) ≡ 0) → loads_after (answer known t) next ≡ loads_of_value (value_of ending) (λ d. next (Value d))
on_value known t None next h none = ap (λ a. loads_after a next) h
on_value known t (Some (Ok d)) next h none = ap (λ a. loads_after a next) h
on_value known t (Some (Err o)) next h none = ap (λ a. loads_after a next) (faults_as known t o h) ∙ none o.fault

-- a part has asked for its loads, and then what goes on from it
pub after_part : (known : Key → Option Outcome) (i : Option Data) (part : Tree) (ending : Option (Result Data Origin)) (next : Answer → ℕ) (before with_part all : ℕ)
    → MayEndWith known (at_item i part) ending → ((f : EvalFault) → next (Fault f) ≡ 0) → with_part ≡ before + loads_at known i part
    → all ≡ with_part + loads_of_value (value_of ending) (λ d. next (Value d)) → all ≡ before + (loads_at known i part + loads_after (answer_at known i part) next)
after_part known i part ending next before with_part all ends none first second =
    let more : loads_after (answer_at known i part) next ≡ loads_of_value (value_of ending) (λ d. next (Value d)) =
    ap (λ a. loads_after a next) (answer_with known i part) ∙ on_value known (at_item i part) ending next ends none in
    omega (arith, first, second, more)

-- without a value nothing more is asked for
pub no_more : (n : ℕ) (v : Option Data) (next : Data → ℕ) → v ≡ None → n ≡ n + loads_of_value v next
no_more n v next is =
    let none : loads_of_value v next ≡ 0 = ap (λ o. loads_of_value o next) is in
    omega (arith, none)

-- a value without the field lists no ids
pub no_fields : (field table : Name) (d : Data) → get field d ≡ None → targets_loads (targets_in table (picked field (Value d))) ≡ 0
no_fields field table d missing = ap (λ o. targets_loads (targets_in table (field_or o))) missing

-- ---- terms

pub term_view-Value : (d : Data) → term_view (form.Value d) ≡ ended (Value d)
term_view-Value d = search (rules, the_lemmas)

pub term_view-Load : (k : Key) → term_view (form.Load k) ≡ load k
term_view-Load k = search (rules, the_lemmas)

-- The origins of the faults of terms, one after another, by the rounds that the terms read.
use Rattle.std.proofs.Common.{◌≡◌, ◌∙◌, ap, sym, subst, refl, ℕ, ◌+◌, ◌<◌, ◌≤◌, true, false, List, [], ◌∷◌, ◌++◌, length, map, drop, get_or, Option, Some, None, append_assoc, append-nil}
use Rattle.std.specs.Prelude.{is_some, if◌then◌else◌, Result, Ok, Err}
use Rattle.std.proofs.lemmas.List.{drop_all}
use Rattle.serde_json.specs.Data.{Data}
use Rattle.dl_values.specs.Key.{Key}
use Rattle.dl_values.specs.declared.outcome.Outcome.{Outcome}
use Rattle.dl_desk.specs.declared.event.Event.{Event}
use Rattle.dl_terms.specs.TermAnswers.{answer}
use Rattle.dl_terms.specs.Tree.{Tree}
use Rattle.dl_terms.specs.View.{term_view}
use Rattle.dl_terms.specs.declared.answer.Answer.{Answer}
use Rattle.dl_terms.specs.declared.answer.Answer.TheVariants.{Value, Fault}
use Rattle.dl_terms.specs.declared.answer.EvalFault.{EvalFault}
use Rattle.dl_terms.specs.declared.term.Term.{Term}
use Rattle.dl_picture.specs.FaultPath.{cells_in, HasOrigin, HaveOrigins, known_in, MayEndWith}
use Rattle.dl_picture.specs.Seeking.{origin_of}
use Rattle.dl_picture.specs.TermLoads.{Cells, known_by, rounds_after, term_loads, with_call}
use Rattle.dl_picture.specs.declared.origin.Origin.{Origin}
use Rattle.dl_picture.proofs.FaultOrigins.{faults_as}
use Rattle.dl_picture.proofs.TermLoads.{ends_at, ends_last, left_is}

-- ---- what a term ends with

-- it ends exactly if it has an answer
pub ends_some : (known : Key → Option Outcome) (t : Tree) (ending : Option (Result Data Origin)) → MayEndWith known t ending → is_some (answer known t) ≡ is_some ending
ends_some known t None h = ap is_some h
ends_some known t (Some (Ok d)) h = ap is_some h
ends_some known t (Some (Err o)) h = ap is_some (faults_as known t o h)

none_some : (f : EvalFault) → ◌≡◌ {A = Option Answer} None (Some (Fault f)) → ⊥
none_some f e = cc

value_fault : (d : Data) (f : EvalFault) → ◌≡◌ {A = Option Answer} (Some (Value d)) (Some (Fault f)) → ⊥
value_fault d f e = cc

module _ (events : List Event) where
  has_origin : (t : Tree) (rounds : List Event) (ending : Option (Result Data Origin)) → MayEndWith (known_in events t rounds) t ending
      → HasOrigin events t rounds (origin_of ending)
  has_origin t rounds None h = λ f e. none_some f (sym h ∙ e)
  has_origin t rounds (Some (Ok d)) h = λ f e. value_fault d f (sym h ∙ e)
  has_origin t rounds (Some (Err o)) h = h

  -- the term has ended that has read these cells, which are those that it has in the end
  pub origin_is : (t : Tree) (rounds : List Event) (cells : Cells) (ending : Option (Result Data Origin)) → cells ≡ cells_in events t [] rounds
      → MayEndWith (known_by events cells) t ending → HasOrigin events t rounds (origin_of ending)
  origin_is t rounds cells ending is h = has_origin t rounds ending (subst (λ cs. MayEndWith (known_by events cs) t ending) is h)

  -- ---- the cells that it has read

  stays : (t : Tree) (cells : Cells) (rounds : List Event) → is_some (answer (known_by events cells) t) ≡ true → cells ≡ cells_in events t cells rounds
  stays t cells [] ends = refl
  stays t cells (round ∷ rounds) ends =
      sym (ap (λ b. if b then cells else cells_in events t (with_call cells round.call round.reply) rounds) ends)

  module _ {X : Type 0} (f : X → Event) (xs : List X) (i : ℕ) (t : Tree) (cells : Cells) where
    -- it waits, and reads the round x
    pub cells_next : (x : X) → i < length xs → x ≡ get_or xs i x → (more : Cells) → is_some (answer (known_by events cells) t) ≡ false
        → more ≡ with_call cells (f x).call (f x).reply → cells_in events t cells (map f (drop i xs)) ≡ cells_in events t more (map f (drop (i + 1) xs))
    cells_next x lt is more waits read =
        let rest = map f (drop (i + 1) xs) in
        ap (λ l. cells_in events t cells (map f l)) (left_is xs i x lt is)
        ∙ (ap (λ b. if b then cells else cells_in events t (with_call cells (f x).call (f x).reply) rest) waits
        ∙ ap (λ c. cells_in events t c rest) (sym read))

    -- it has its answer before the next round
    pub cells_end : is_some (answer (known_by events cells) t) ≡ true → (all : Cells) → cells_in events t cells (map f (drop i xs)) ≡ all → cells ≡ all
    cells_end ends all held = stays t cells (map f (drop i xs)) ends ∙ held

    -- no round is left
    pub cells_last : length xs ≤ i → (all : Cells) → cells_in events t cells (map f (drop i xs)) ≡ all → cells ≡ all
    cells_last past all held = ap (λ l. cells_in events t cells (map f l)) (sym (drop_all i xs past)) ∙ held

    pub rounds_end : is_some (answer (known_by events cells) t) ≡ true → (left : List Event) → rounds_after events t cells (map f (drop i xs)) ≡ left
        → drop i (map f xs) ≡ left
    rounds_end ends left held = (ends_at events f xs i t cells (term_loads (known_by events cells) t) refl ends).1 ∙ held

    pub rounds_last : (k : ℕ) → length xs ≤ i → length xs ≤ k → (left : List Event) → rounds_after events t cells (map f (drop i xs)) ≡ left
        → drop k (map f xs) ≡ left
    rounds_last k past end left held = (ends_last events f xs i t cells (term_loads (known_by events cells) t) k refl past end).1 ∙ held

  -- ---- one term more

  module _ (xs : List Term) (i : ℕ) (whole : List (Option Origin) → Type 0) where
    pub origins_next : (x : Term) → i < length xs → x ≡ get_or xs i x → (rounds after : List Event) (os more : List (Option Origin)) (o : Option Origin)
        → ((rest : List (Option Origin)) → HaveOrigins events (map term_view (drop i xs)) rounds rest → whole (os ++ rest))
        → HasOrigin events (term_view x) rounds o → after ≡ rounds_after events (term_view x) [] rounds → more ≡ os ++ o ∷ []
        → (rest : List (Option Origin)) → HaveOrigins events (map term_view (drop (i + 1) xs)) after rest → whole (more ++ rest)
    origins_next x lt is rounds after os more o held own left pushed = λ rest have.
        let ts = map term_view (drop (i + 1) xs) in
        let all : HaveOrigins events (term_view x ∷ ts) rounds (o ∷ rest) = (own, subst (λ rs. HaveOrigins events ts rs rest) left have) in
        subst whole (sym (ap (λ l. l ++ rest) pushed ∙ append_assoc os (o ∷ []) rest))
        (held (o ∷ rest) (subst (λ l. HaveOrigins events (map term_view l) rounds (o ∷ rest)) (sym (left_is xs i x lt is)) all))

    pub origins_done : length xs ≤ i → (rounds : List Event) (os : List (Option Origin))
        → ((rest : List (Option Origin)) → HaveOrigins events (map term_view (drop i xs)) rounds rest → whole (os ++ rest)) → whole os
    origins_done past rounds os held =
        subst whole (append-nil os) (held [] (subst (λ l. HaveOrigins events (map term_view l) rounds []) (sym (drop_all i xs past)) refl))

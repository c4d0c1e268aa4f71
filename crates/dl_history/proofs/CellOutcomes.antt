-- What is kept of a cell's outcome: what the cell shows or keeps is what the history gives it.
use Rattle.std.proofs.Common.{◌≡◌, ◌∙◌, sym, ap, ℕ, ◌<◌, ◌≤◌, ◌⊎◌, inl, inr, true, false, List, length, Option, Some, None, IsSome, MatchOption, option_map}
use Rattle.std.proofs.Common.{slice_get, refl, arith}
use Rattle.std.proofs.lemmas.Bool.{cases_lt}
use Rattle.dl_desk.specs.Events.{Placed, atoms, ending, outcome, outcome_given}
use Rattle.dl_desk.specs.History.{cells}
use Rattle.dl_values.specs.declared.outcome.Outcome.{Outcome}
use Rattle.dl_desk.specs.declared.event.Event.{Event}
use Rattle.dl_desk.specs.declared.event.Ending.{Ending}
use Rattle.dl_history.specs.History.{AllEnded}
use Rattle.dl_desk.specs.Service.{Service, AnswersEach}
use Rattle.dl_history.specs.History.{IsLegal, past, end_with, ending_of}
use Rattle.dl_history.specs.Journal.{Cell}
use Rattle.dl_history.specs.LoaderState.{LoaderState, ShownAs, IsLoaderState}
use Rattle.dl_history.proofs.ListLemmas.{get-inside}
use Rattle.dl_history.proofs.Endings.{none_unbegun}
use Rattle.dl_history.proofs.AllCellsEnd.{shows_end}

-- what the history gives a cell is the outcome of the end that it has
pub outcome_of_end : (es : List Event) (c : ℕ) → outcome (past es) c ≡ option_map (λ e. e.outcome) (ending_of es c)
outcome_of_end es c = by (ending (past es) c) refl
  where
    given : (at : ℕ) (o : Option Outcome) → o ≡ option_map (λ (e : Ending). e.outcome) (end_with (Some at) o)
    given at None = refl
    given at (Some o) = refl

    by : (p : Option Placed) → ending (past es) c ≡ p → outcome (past es) c ≡ option_map (λ (e : Ending). e.outcome) (ending_of es c)
    by None is = rw is refl
    by (Some p) is = rw is (given p.place (outcome_given (atoms (past es)) c p.event.call))

-- each cell that was begun is kept as it ended
pub shown_as : (s : Service) (b : LoaderState) (c : ℕ) → IsLoaderState s b → ShownAs (slice_get b.cells c) (ending_of b.history c)
shown_as s b c kept = by (slice_get b.cells c) refl
  where
    past : slice_get b.cells c ≡ None → (c < length b.cells) ⊎ (length b.cells ≤ c) → ending_of b.history c ≡ None
    past none (inl low) = absurd (get-inside b.cells c low none)
    past none (inr high) =
        let all = kept.all_cells in
        let begun = kept.desk.cells in
        none_unbegun s b.history c kept.legal (omega arith)

    by : (o : Option Cell) → slice_get b.cells c ≡ o → ShownAs o (ending_of b.history c)
    by None none = past none (cases_lt c (length b.cells))
    by (Some x) some = kept.ends c x some

-- what is kept of a cell tells what the history gives it
pub kept_outcome : (s : Service) (b : LoaderState) (c : ℕ) (got : Option Outcome) → IsLoaderState s b
    → ((end : Option Ending) → ShownAs (slice_get b.cells c) end → got ≡ option_map (λ e. e.outcome) end) → got ≡ outcome (past b.history) c
kept_outcome s b c got kept tells = tells (ending_of b.history c) (shown_as s b c kept) ∙ sym (outcome_of_end b.history c)

-- where each batch has ended, a cell has an outcome exactly where it was begun
pub outcome_begun : {X : Type 0} (f : X → Outcome) (r : Option X) (s : Service) (es : List Event) (c : ℕ) → AnswersEach s.answer → IsLegal s es → AllEnded es
    → option_map f r ≡ outcome (past es) c
    → MatchOption r (cells (atoms (past es)) ≤ c) (λ x. c < cells (atoms (past es)))
outcome_begun {X} f r s es c answers legal all given = by r (given ∙ outcome_of_end es c) (cases_lt c (cells (atoms (past es))))
  where
    some : (e : Option Ending) → IsSome e → ◌≡◌ {A = Option Outcome} None (option_map (λ (x : Ending). x.outcome) e) → ⊥
    some None is none = absurd (let bad : false ≡ true = is in cc)
    some (Some x) is none = absurd (let bad : ◌≡◌ {A = Option Outcome} None (Some x.outcome) = none in cc)

    by : (o : Option X) → option_map f o ≡ option_map (λ (x : Ending). x.outcome) (ending_of es c) → (c < cells (atoms (past es))) ⊎ (cells (atoms (past es)) ≤ c)
        → MatchOption o (cells (atoms (past es)) ≤ c) (λ x. c < cells (atoms (past es)))
    by None is (inl low) = absurd (some (ending_of es c) (shows_end s es c answers legal all low) is)
    by None is (inr high) = high
    by (Some x) is (inl low) = low
    by (Some x) is (inr high) =
        let none : ending_of es c ≡ None = none_unbegun s es c legal high in
        let bad : ◌≡◌ {A = Option Outcome} (Some (f x)) None = is ∙ ap (option_map (λ (y : Ending). y.outcome)) none in
        absurd (let same : ◌≡◌ {A = Option Outcome} (Some (f x)) None = bad in cc)

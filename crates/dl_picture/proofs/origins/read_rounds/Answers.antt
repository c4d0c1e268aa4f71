use Rattle.std.proofs.Common.{◌≡◌, ◌∙◌, [], Option, None, Some, true, ap, map, refl, sym}
use Rattle.std.specs.Prelude.{is_some}
use Rattle.dl_terms.specs.View.{term_view}
use Rattle.dl_picture.specs.FaultPath.{cells_in}
use Rattle.dl_picture.specs.TermLoads.{known_by, rounds_after}
use Rattle.dl_picture.proofs.FaultRounds.{cells_end, cells_next, ends_some, origin_is, rounds_end}
use Rattle.dl_picture.proofs.TermLoads.{ends_at, waits_on}
use Rattle.dl_picture.proofs.origins.read_rounds.Goals as goal

pub loop-place-preserved : goal.loop-place-preserved
loop-place-preserved c =
    let events = c.args.history.now.events in
    let rounds = c.args.rounds.now in
    let t = term_view c.args.term.now in
    let i = c.loop-place.place in
    let cells = c.loop-place.cells.entries in
    let x = c.index-rounds-place.result in
    let h = c.loop-place.invariant in
    let waits = ends_some (known_by events cells) t c.in_ok-ending.ending c.in_ok-ending.ensures.ends ∙ ap is_some c.in-None.is in
    let step = waits_on events (λ e. e.now) rounds i t cells x c.loop-place-test.true c.index-rounds-place.is c.read_round.new.cells.entries waits c.in_ok-read_round-in-None.ensures in
    record {
      cells = sym (cells_next events (λ e. e.now) rounds i t cells x c.loop-place-test.true c.index-rounds-place.is c.read_round.new.cells.entries waits
          c.in_ok-read_round-in-None.ensures)
          ∙ h.cells;
      loads = sym step.0 ∙ h.loads;
      left = sym step.1 ∙ h.left;
    }

some_if : {A : Type 0} (o : Option A) → (o ≡ None → ⊥) → is_some o ≡ true
some_if None never = absurd (never refl)
some_if (Some x) never = refl

pub returns-in_default-clause-origin : goal.returns-in_default-clause-origin
returns-in_default-clause-origin c =
    let events = c.args.history.now.events in
    let rounds = c.args.rounds.now in
    let t = term_view c.args.term.now in
    let cells = c.loop-place.cells.entries in
    let ending = c.in_ok-ending.ending in
    let ends = ends_some (known_by events cells) t ending c.in_ok-ending.ensures.ends ∙ some_if ending c.in_default.not-None in
    rw c.origin_of.ensures
    (origin_is events t (map (λ e. e.now) rounds) cells ending
    (cells_end events (λ e. e.now) rounds c.loop-place.place t cells ends (cells_in events t [] (map (λ e. e.now) rounds)) c.loop-place.invariant.cells)
    c.in_ok-ending.ensures.ends)

pub returns-in_default-clause-left : goal.returns-in_default-clause-left
returns-in_default-clause-left c =
    let events = c.args.history.now.events in
    let rounds = c.args.rounds.now in
    let t = term_view c.args.term.now in
    let cells = c.loop-place.cells.entries in
    let ending = c.in_ok-ending.ending in
    let ends = ends_some (known_by events cells) t ending c.in_ok-ending.ensures.ends ∙ some_if ending c.in_default.not-None in
    rounds_end events (λ e. e.now) rounds c.loop-place.place t cells ends (rounds_after events t [] (map (λ e. e.now) rounds)) c.loop-place.invariant.left

pub returns-in_default-clause-loads : goal.returns-in_default-clause-loads
returns-in_default-clause-loads c =
    let t = term_view c.args.term.now in
    let cells = c.loop-place.cells.entries in
    let ending = c.in_ok-ending.ending in
    let ends = ends_some (known_by c.args.history.now.events cells) t ending c.in_ok-ending.ensures.ends ∙ some_if ending c.in_default.not-None in
    (ends_at c.args.history.now.events (λ e. e.now) c.args.rounds.now c.loop-place.place t cells c.in_ok-ending.loads c.in_ok-ending.ensures.loads ends).0
    ∙ c.loop-place.invariant.loads

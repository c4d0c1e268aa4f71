-- The endings so far are those of the terms, or the copies, so far, unless one waits, and those left ask for the rest of the
-- loads. Each call looks at a term that is less high, or goes on with the same.
use Rattle.std.proofs.Common.{◌≡◌, ◌+◌, ◌*◌, None, Some, drop, map, take}
use Rattle.std.specs.Prelude.{IfNone, IfSome, option_copied}
use Rattle.std.specs.List.{AllZip}
use Rattle.serde_json.specs.View.{items_of}
use Rattle.dl_terms.specs.TermAnswers.{answers}
use Rattle.dl_terms.specs.Tree.{height_of, height_of_all, with_item}
use Rattle.dl_terms.specs.View.{term_view, terms_view, trees_of}
use Rattle.dl_picture.specs.Asking.{known_of}
use Rattle.dl_picture.specs.FaultPath.{at_item, EndsWith}
use Rattle.dl_picture.specs.TermLoads.{all_loads_at, copy_loads, loads_at}
use Rattle.dl_picture.proofs.knowledge.Knowledge.+seeking.Given as goal

abbrev pub decreases-seek : goal.decreases-seek
decreases-seek l = 4 * height_of (term_view l.term.now)

abbrev pub decreases-seek_all : goal.decreases-seek_all
decreases-seek_all l = 4 * height_of_all (terms_view l.parts.now) + 2

abbrev pub decreases-endings_of : goal.decreases-endings_of
decreases-endings_of l = 4 * height_of_all (terms_view l.terms.now) + 1

abbrev pub decreases-seek_over : goal.decreases-seek_over
decreases-seek_over l = 4 * height_of (term_view l.body.now) + 3

abbrev pub decreases-over_of : goal.decreases-over_of
decreases-over_of l = 4 * height_of (term_view l.body.now) + 2

abbrev pub decreases-endings_over : goal.decreases-endings_over
decreases-endings_over l = 4 * height_of (term_view l.body.now) + 1

abbrev pub invariant-endings_of-loop-term : goal.invariant-endings_of-loop-term
invariant-endings_of-loop-term l = record {
  endings : IfSome l.endings (λ es. AllZip (EndsWith (known_of l.self)) (map (λ x. at_item (option_copied l.item) (term_view x)) (take l.term-index l.terms)) es.items);
  waits : IfNone l.endings (answers (known_of l.self) (trees_of (map (λ x. at_item (option_copied l.item) (term_view x)) l.terms)) ≡ None);
  loads : l.asking.loads + all_loads_at (known_of l.self) (option_copied l.item) (terms_view (drop l.term-index l.terms))
      ≡ l.initial.asking.loads + all_loads_at (known_of l.self) (option_copied l.item) (terms_view l.terms);
}

abbrev pub invariant-endings_over-loop-place : goal.invariant-endings_over-loop-place
invariant-endings_over-loop-place l = record {
  endings : IfSome l.endings (λ es. AllZip (EndsWith (known_of l.self)) (map (λ d. with_item d (term_view l.body)) (take l.place l.items)) es.items);
  waits : IfNone l.endings (answers (known_of l.self) (trees_of (map (λ d. with_item d (term_view l.body)) l.items)) ≡ None);
  loads : l.asking.loads + copy_loads (λ d. loads_at (known_of l.self) (Some d) (term_view l.body)) (items_of (drop l.place l.items))
      ≡ l.initial.asking.loads + copy_loads (λ d. loads_at (known_of l.self) (Some d) (term_view l.body)) (items_of l.items);
}

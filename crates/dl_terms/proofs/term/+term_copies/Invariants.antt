-- The copies so far are the terms so far.
use Rattle.std.proofs.Common.{◌≡◌, map, take}
use Rattle.dl_terms.specs.View.{term_view}
use Rattle.dl_terms.proofs.term.+term_copies.Given as goal

abbrev pub invariant-copies_of-loop-term : goal.invariant-copies_of-loop-term
invariant-copies_of-loop-term l = map term_view l.copies.items ≡ map term_view (take l.term-index l.term-items)

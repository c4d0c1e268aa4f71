-- The nodes so far stand for the terms so far, and the rest adds what is wanted yet. Each term is less high than those
-- around it, and so is the body of a frame.
use Rattle.std.proofs.Common.{◌≡◌, ◌+◌, ◌*◌, take, drop}
use Rattle.std.specs.Prelude.{Some, max}
use Rattle.std.specs.List.{AllZip}
use Rattle.indexmap.specs.IndexSet.{insert_all}
use Rattle.serde_json.specs.View.{items_of}
use Rattle.dl_values.specs.Key.{key_eq}
use Rattle.dl_terms.specs.Tree.{height_of, height_of_all}
use Rattle.dl_terms.specs.TermAnswers.{copy_waits, waits_at, all_wait_at}
use Rattle.dl_terms.specs.View.{term_view, terms_view}
use Rattle.dl_terms.specs.Node.{node_view}
use Rattle.dl_terms.specs.Asked.{known_of, pairs_of, wanted_of}
use Rattle.dl_terms.specs.Inside.Exploration.{StandsAt}
use Rattle.dl_terms.proofs.TermViews.{body_high}
use Rattle.dl_terms.proofs.body.+entering.Given as goal

abbrev pub invariant-enter_copies-loop-item : goal.invariant-enter_copies-loop-item
invariant-enter_copies-loop-item l = record {
  pairs : pairs_of l.asked ≡ pairs_of l.initial.asked;
  stand : AllZip (λ d n. StandsAt (known_of l.initial.asked) (Some d) (term_view l.body) (node_view n)) (take l.item-index l.items) l.copies.items;
  wanted : insert_all key_eq (wanted_of l.asked)
      (copy_waits (λ d. waits_at (known_of l.initial.asked) (Some d) (term_view l.body)) (items_of (drop l.item-index l.items)))
      ≡ insert_all key_eq (wanted_of l.initial.asked) (copy_waits (λ d. waits_at (known_of l.initial.asked) (Some d) (term_view l.body)) (items_of l.items));
}

abbrev pub invariant-enter_all-loop-part : goal.invariant-enter_all-loop-part
invariant-enter_all-loop-part l = record {
  pairs : pairs_of l.asked ≡ pairs_of l.initial.asked;
  stand : AllZip (λ t n. StandsAt (known_of l.initial.asked) (Some l.item) (term_view t) (node_view n)) (take l.part-index l.part-items) l.nodes.items;
  wanted : insert_all key_eq (wanted_of l.asked) (all_wait_at (known_of l.initial.asked) (Some l.item) (terms_view (drop l.part-index l.part-items)))
      ≡ insert_all key_eq (wanted_of l.initial.asked) (all_wait_at (known_of l.initial.asked) (Some l.item) (terms_view l.part-items));
}

abbrev pub decreases-enter : goal.decreases-enter
decreases-enter l = 8 * height_of (term_view l.term.now)

abbrev pub decreases-enter_all : goal.decreases-enter_all
decreases-enter_all l = 8 * height_of_all (terms_view l.parts.now.items) + 1

abbrev pub decreases-enter_parts : goal.decreases-enter_parts
decreases-enter_parts l = 8 * height_of_all (terms_view l.parts.now.items) + 2

abbrev pub decreases-enter_part : goal.decreases-enter_part
decreases-enter_part l = 8 * max (height_of (term_view l.part.now)) (body_high l.frame) + 7

abbrev pub decreases-go_in : goal.decreases-go_in
decreases-go_in l = 8 * body_high l.frame + 5

abbrev pub decreases-go_on : goal.decreases-go_on
decreases-go_on l = 8 * body_high l.frame + 4

abbrev pub decreases-go_over : goal.decreases-go_over
decreases-go_over l = 8 * height_of (term_view l.body.now) + 3

abbrev pub decreases-enter_copies : goal.decreases-enter_copies
decreases-enter_copies l = 8 * height_of (term_view l.body.now) + 2

-- What stands before a value is text.
use denote.Text.{Utf8}
use denote.Shadow.{shadow}
use Rattle.dl_terms.proofs.answer_value.+showing.Given as goal

abbrev pub invariant-show_list-loop-value : goal.invariant-show_list-loop-value
invariant-show_list-loop-value g l = shadow (Utf8 l.before)

abbrev pub invariant-show_object-loop-place : goal.invariant-show_object-loop-place
invariant-show_object-loop-place g l = shadow (Utf8 l.before)

-- The terms left have only these forms if all terms do.
use Rattle.std.proofs.Common.{◌≡◌, drop}
use Rattle.dl_terms.specs.View.{terms_view}
use Rattle.dl_documents.specs.Terms.{have_forms}
use Rattle.dl_documents.proofs.forms.+forming.Given as goal

abbrev pub invariant-have_forms-loop-term : goal.invariant-have_forms-loop-term
invariant-have_forms-loop-term l = have_forms l.forms (terms_view (drop l.term-index l.term-items)) ≡ have_forms l.forms (terms_view l.term-items)

use Rattle.std.proofs.Common.{◌≡◌, ◌∷◌, ◌+◌, ◌&&◌, true, false, drop, sym, ap, ◌∙◌, arith}
use Rattle.std.proofs.lemmas.List.{drop_more}
use Rattle.dl_terms.specs.View.{term_view, terms_view}
use Rattle.dl_documents.specs.Terms.{has_forms, have_forms}
use Rattle.dl_documents.proofs.forms.+forming.Goals as goal

pub have_forms-loop-term-preserved : goal.have_forms-loop-term-preserved
have_forms-loop-term-preserved t c =
    let l = c.loop-term in
    let forms = c.args.forms in
    let xs = c.deref-term-items.result.now in
    let x = c.term-item.result in
    let here : drop l.term-index xs ≡ x ∷ drop (l.term-index + 1) xs = drop_more xs l.term-index x (omega arith)
    ∙ ap (λ y. y ∷ drop (l.term-index + 1) xs) (sym c.term-item.is) in
    let rest = have_forms forms (terms_view (drop (l.term-index + 1) xs)) in
    let yes : true ≡ has_forms forms (term_view x) = c.if-not-has_forms.ensures in
    ap (λ b. b && rest) yes ∙ sym (ap (λ ys. have_forms forms (terms_view ys)) here) ∙ l.invariant

pub have_forms-returns-then-not-has_forms : goal.have_forms-returns-then-not-has_forms
have_forms-returns-then-not-has_forms t c =
    let l = c.loop-term in
    let forms = c.args.forms in
    let xs = c.deref-term-items.result.now in
    let x = c.term-item.result in
    let here : drop l.term-index xs ≡ x ∷ drop (l.term-index + 1) xs = drop_more xs l.term-index x (omega arith)
    ∙ ap (λ y. y ∷ drop (l.term-index + 1) xs) (sym c.term-item.is) in
    let rest = have_forms forms (terms_view (drop (l.term-index + 1) xs)) in
    let no : false ≡ has_forms forms (term_view x) = c.if-not-has_forms.ensures in
    ap (λ b. b && rest) no ∙ sym (ap (λ ys. have_forms forms (terms_view ys)) here) ∙ l.invariant
    ∙ ap (λ ts. have_forms forms (terms_view ts)) c.deref-term-items.ensures.value

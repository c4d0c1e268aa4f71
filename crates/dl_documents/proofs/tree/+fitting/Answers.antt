use Rattle.std.proofs.Common.{◌≡◌, ◌∷◌, ◌+◌, ◌&&◌, true, false, drop, is_some, sym, ap, ◌∙◌, arith}
use Rattle.std.proofs.lemmas.List.{drop_more}
use Rattle.json.specs.Json as json
use Rattle.json.specs.Value.{value_view, items_view, members_view}
use Rattle.json.proofs.Trees.{view-Object}
use Rattle.serde_json.specs.Data.{object, no_members}
use Rattle.serde_json.specs.Read.{of_json, of_items, of_members}
use Rattle.dl_documents.proofs.TreeData.{map_fits, item_fits, member_fits}
use Rattle.dl_documents.proofs.tree.+fitting.Goals as goal

pub has_fitting_numbers-returns-in-Object : goal.has_fitting_numbers-returns-in-Object
has_fitting_numbers-returns-in-Object t c =
    let ms = members_view c.in-Object.members.items in
    let seen : value_view c.args.tree.now ≡ json.object ms = ap value_view c.in-Object.is ∙ view-Object c.in-Object.members in
    c.members_fit.ensures ∙ ap (λ xs. is_some (of_members (members_view xs) no_members)) c.deref-in-Object.ensures.value
    ∙ sym (ap (λ j. is_some (of_json j)) seen ∙ map_fits object (of_members ms no_members))

pub items_fit-returns-then-not-has_fitting_numbers : goal.items_fit-returns-then-not-has_fitting_numbers
items_fit-returns-then-not-has_fitting_numbers t c =
    let l = c.loop-item in
    let xs = c.args.items.now in
    let x = c.item-item.result in
    let here : drop l.item-index xs ≡ x ∷ drop (l.item-index + 1) xs = drop_more xs l.item-index x (omega arith)
    ∙ ap (λ y. y ∷ drop (l.item-index + 1) xs) (sym c.item-item.is) in
    let rest = items_view (drop (l.item-index + 1) xs) in
    let no : false ≡ is_some (of_json (value_view x)) = c.if-not-has_fitting_numbers.ensures in
    ap (λ b. b && is_some (of_items rest)) no ∙ sym (item_fits (value_view x) rest) ∙ sym (ap (λ ys. is_some (of_items (items_view ys))) here) ∙ l.invariant

pub items_fit-loop-item-preserved : goal.items_fit-loop-item-preserved
items_fit-loop-item-preserved t c =
    let l = c.loop-item in
    let xs = c.args.items.now in
    let x = c.item-item.result in
    let here : drop l.item-index xs ≡ x ∷ drop (l.item-index + 1) xs = drop_more xs l.item-index x (omega arith)
    ∙ ap (λ y. y ∷ drop (l.item-index + 1) xs) (sym c.item-item.is) in
    let rest = items_view (drop (l.item-index + 1) xs) in
    let yes : true ≡ is_some (of_json (value_view x)) = c.if-not-has_fitting_numbers.ensures in
    ap (λ b. b && is_some (of_items rest)) yes ∙ sym (item_fits (value_view x) rest) ∙ sym (ap (λ ys. is_some (of_items (items_view ys))) here) ∙ l.invariant

pub members_fit-returns-then-not-has_fitting_numbers : goal.members_fit-returns-then-not-has_fitting_numbers
members_fit-returns-then-not-has_fitting_numbers t c =
    let l = c.loop-member in
    let xs = c.args.members.now in
    let x = c.member-item.result in
    let here : drop l.member-index xs ≡ x ∷ drop (l.member-index + 1) xs = drop_more xs l.member-index x (omega arith)
    ∙ ap (λ y. y ∷ drop (l.member-index + 1) xs) (sym c.member-item.is) in
    let rest = members_view (drop (l.member-index + 1) xs) in
    let no : false ≡ is_some (of_json (value_view x.1)) = c.if-not-has_fitting_numbers.ensures in
    ap (λ b. b && is_some (of_members rest no_members)) no ∙ sym (member_fits x.0.now (value_view x.1) rest)
    ∙ sym (ap (λ ys. is_some (of_members (members_view ys) no_members)) here) ∙ l.invariant

pub members_fit-loop-member-preserved : goal.members_fit-loop-member-preserved
members_fit-loop-member-preserved t c =
    let l = c.loop-member in
    let xs = c.args.members.now in
    let x = c.member-item.result in
    let here : drop l.member-index xs ≡ x ∷ drop (l.member-index + 1) xs = drop_more xs l.member-index x (omega arith)
    ∙ ap (λ y. y ∷ drop (l.member-index + 1) xs) (sym c.member-item.is) in
    let rest = members_view (drop (l.member-index + 1) xs) in
    let yes : true ≡ is_some (of_json (value_view x.1)) = c.if-not-has_fitting_numbers.ensures in
    ap (λ b. b && is_some (of_members rest no_members)) yes ∙ sym (member_fits x.0.now (value_view x.1) rest)
    ∙ sym (ap (λ ys. is_some (of_members (members_view ys) no_members)) here) ∙ l.invariant

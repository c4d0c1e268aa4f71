use Rattle.std.proofs.Common.{◌≡◌, ◌∙◌, ◌≤◌, List, [], ◌∷◌, length, map, Option, Some, None, option_map, Vec, Global, refl, sym, ap, subst, rules, arith}
use Rattle.std.proofs.lemmas.List.{map-append}
use Rattle.std.specs.Prelude.{IfOk}
use Rattle.std.proofs.lemmas.Result.{IfOk-from_err}
use Rattle.serde_json.specs.Data.{depth, items_depth}
use Rattle.dl_terms.specs.Tree.{Tree, pick, follow, each}
use Rattle.dl_terms.specs.View.{term_view}
use Rattle.dl_terms.specs.declared.term.Term.{Term}
use Rattle.dl_documents.specs.Inside.Trees.{tree_data, list_data}
use Rattle.dl_documents.proofs.FindingLists.{found_first, found_next, found_none}
use Rattle.dl_documents.proofs.TermParts.{no_list, no_names, other_name, field_lower, link_lower}
use Rattle.dl_documents.proofs.TermParts.{no_over, over_no_part, over_no_body, over_some, part_lower, no_object, members_none, members_some, values_lower}
use Rattle.dl_documents.proofs.TermParts.{term_view-Follow, term_view-Each, pick_none, pick_some, link_none, link_some}
use Rattle.dl_documents.proofs.Trees.{no_term, one_term, all_unread, all_made, item_within, rest_within, items_lower, all_read}
use Rattle.std.specs.Vec.Iter.{into_iter_items}
use Rattle.dl_documents.specs.TermReading.{together, term_in, parts_in, parts_of}
use Rattle.dl_documents.proofs.terms.+reading.Goals as goal

abbrev viewed : Option (Vec Term Global) → Option (List Tree)
viewed parts = option_map (λ (ts : Vec Term Global). map term_view ts.items) parts

pub pick-returns-in_err-part : goal.pick-returns-in_err-part
pick-returns-in_err-part t c = IfOk-from_err _ _ c.from_residual.ensures.0

pub follow-returns-in_err-part : goal.follow-returns-in_err-part
follow-returns-in_err-part t c = IfOk-from_err _ _ c.from_residual.ensures.0

pub each-returns-in_err-part : goal.each-returns-in_err-part
each-returns-in_err-part t c = IfOk-from_err _ _ c.from_residual.ensures.0

pub all-returns-in_err-parts : goal.all-returns-in_err-parts
all-returns-in_err-parts t c = IfOk-from_err _ _ c.from_residual.ensures.0

pub read_parts-returns-in_err-parts : goal.read_parts-returns-in_err-parts
read_parts-returns-in_err-parts t c = IfOk-from_err _ _ c.from_residual.ensures.0

pub read_parts-returns-in_err-part : goal.read_parts-returns-in_err-part
read_parts-returns-in_err-part t c = IfOk-from_err _ _ c.from_residual-in_err-part.ensures.0

pub read_parts-returns-in_err-push : goal.read_parts-returns-in_err-push
read_parts-returns-in_err-push t c = IfOk-from_err _ _ c.from_residual-in_err-push.ensures.0

pub over-returns-in_err-part : goal.over-returns-in_err-part
over-returns-in_err-part t c = IfOk-from_err _ _ c.from_residual.ensures.0

pub over-returns-in_err-body : goal.over-returns-in_err-body
over-returns-in_err-body t c = IfOk-from_err _ _ c.from_residual-in_err-body.ensures.0

pub over-returns-in_default : goal.over-returns-in_default
over-returns-in_default t c = no_over _ c.in_default.ensures

pub over-read_part-requires : goal.over-read_part-requires
over-read_part-requires t c = (omega (arith, part_lower (tree_data c.args.argument) _ _ c.in-Some.ensures), tt)

pub over-returns-in_default-2 : goal.over-returns-in_default-2
over-returns-in_default-2 t c = over_no_part (tree_data c.args.argument) _ _ c.in_ok-part.field-0 c.in-Some.ensures c.in_ok-part.ensures c.in_default-2.is

pub over-returns-in_default-3 : goal.over-returns-in_default-3
over-returns-in_default-3 t c =
    over_no_body (tree_data c.args.argument) _ _ c.in_ok-part.field-0 c.in-Some-2.part c.in-Some.ensures c.in_ok-part.ensures c.in-Some-2.is
    c.in_ok-body.field-0 c.in_ok-body.ensures c.in_default-3.is

pub over-returns : goal.over-returns
over-returns t c =
    over_some (tree_data c.args.argument) _ _ c.in_ok-part.field-0 c.in-Some-2.part c.in-Some.ensures c.in_ok-part.ensures c.in-Some-2.is
    c.in_ok-body.field-0 c.in_ok-body.ensures c.in-Some-3.body c.in-Some-3.is

pub object-returns-in_err-texts : goal.object-returns-in_err-texts
object-returns-in_err-texts t c = IfOk-from_err _ _ c.from_residual.ensures.0

pub object-returns-in_err-names : goal.object-returns-in_err-names
object-returns-in_err-names t c = IfOk-from_err _ _ c.from_residual-in_err-names.ensures.0

pub object-returns-in_err-parts : goal.object-returns-in_err-parts
object-returns-in_err-parts t c = IfOk-from_err _ _ c.from_residual-in_err-parts.ensures.0

pub object-returns-in_default : goal.object-returns-in_default
object-returns-in_default t c = no_object _ c.in_default.ensures

pub object-read_parts-requires : goal.object-read_parts-requires
object-read_parts-requires t c =
    (omega (arith, values_lower (tree_data c.args.argument) _ c.in_ok-texts.values.items c.in-Some.ensures c.in_ok-texts.ensures.values), tt)

pub object-returns-in-None : goal.object-returns-in-None
object-returns-in-None t c =
    members_none (tree_data c.args.argument) _ c.in_ok-texts.values.items c.in-Some.ensures c.in_ok-texts.ensures.values
    (sym (ap viewed c.in-None.is) ∙ c.in_ok-parts.ensures)

pub object-returns-in-Some-2 : goal.object-returns-in-Some-2
object-returns-in-Some-2 t c =
    members_some (tree_data c.args.argument) _ c.in_ok-texts.values.items c.in-Some.ensures c.in_ok-texts.ensures.values c.in_ok-names.names c.in-Some-2.parts
    (c.in_ok-names.ensures ∙ c.in_ok-texts.ensures.names) (sym (ap viewed c.in-Some-2.is) ∙ c.in_ok-parts.ensures)

pub all-read_parts-requires : goal.all-read_parts-requires
all-read_parts-requires t c = (omega (arith, items_lower (tree_data c.args.argument) c.in-Some.items.items c.in-Some.ensures), tt)

pub all-returns-in-None : goal.all-returns-in-None
all-returns-in-None t c =
    all_unread (tree_data c.args.argument) c.in-Some.items.items c.in-Some.ensures (sym (ap viewed c.in-None.is) ∙ c.in_ok-parts.ensures)

pub all-returns-in-Some-2 : goal.all-returns-in-Some-2
all-returns-in-Some-2 t c =
    all_made (tree_data c.args.argument) c.in-Some.items.items c.in-Some-2.parts c.in-Some.ensures (sym (ap viewed c.in-Some-2.is) ∙ c.in_ok-parts.ensures)

pub all-returns-in_default : goal.all-returns-in_default
all-returns-in_default t c = no_list _ (parts_in (tree_data c.args.argument)) c.in_default.ensures

pub read_part-returns-in_err-term : goal.read_part-returns-in_err-term
read_part-returns-in_err-term t c = IfOk-from_err _ _ c.from_residual.ensures.0

pub read_part-returns-in_err-new-in-Some : goal.read_part-returns-in_err-new-in-Some
read_part-returns-in_err-new-in-Some t c = IfOk-from_err _ _ c.from_residual-in_err-new-in-Some.ensures.0

pub named-returns-in_err-json-in-value : goal.named-returns-in_err-json-in-value
named-returns-in_err-json-in-value t c = IfOk-from_err _ _ c.from_residual.ensures.0

pub named-returns-in_err-key-in-load : goal.named-returns-in_err-key-in-load
named-returns-in_err-key-in-load t c = IfOk-from_err _ _ c.from_residual-in_err-key-in-load.ensures.0

pub pick-returns-in_default-2 : goal.pick-returns-in_default-2
pick-returns-in_default-2 t c = pick_none (tree_data c.args.argument) _ _ c.in_ok-part.field-0 c.in-Some.ensures c.in_ok-part.ensures c.in_default-2.is

pub follow-returns-in_default-2 : goal.follow-returns-in_default-2
follow-returns-in_default-2 t c =
    link_none follow (tree_data c.args.argument) _ _ _ c.in_ok-part.field-0 c.in-Some.ensures c.in_ok-part.ensures c.in_default-2.is

pub each-returns-in_default-2 : goal.each-returns-in_default-2
each-returns-in_default-2 t c = link_none each (tree_data c.args.argument) _ _ _ c.in_ok-part.field-0 c.in-Some.ensures c.in_ok-part.ensures c.in_default-2.is

pub read_part-returns-in-None : goal.read_part-returns-in-None
read_part-returns-in-None t c = sym (ap (option_map term_view) c.in-None.is) ∙ c.in_ok-term.ensures

pub read_part-returns-in_ok-new-in-Some : goal.read_part-returns-in_ok-new-in-Some
read_part-returns-in_ok-new-in-Some t c =
    ap (λ x. Some (term_view x)) c.in_ok-new-in-Some.ensures.ok ∙ (sym (ap (option_map term_view) c.in-Some.is) ∙ c.in_ok-term.ensures)

pub read_term-returns-in-None : goal.read_term-returns-in-None
read_term-returns-in-None t c = no_term _ c.in-None.ensures

pub named-returns-in-pick : goal.named-returns-in-pick
named-returns-in-pick t c = rw c.in-pick.is c.pick.ensures

pub named-returns-in-follow : goal.named-returns-in-follow
named-returns-in-follow t c = rw c.in-follow.is c.follow.ensures

pub named-returns-in-each : goal.named-returns-in-each
named-returns-in-each t c = rw c.in-each.is c.each.ensures

pub named-returns-in-all : goal.named-returns-in-all
named-returns-in-all t c = rw c.in-all.is c.all.ensures

pub named-returns-in-over : goal.named-returns-in-over
named-returns-in-over t c = rw c.in-over.is c.over.ensures

pub named-returns-in-item : goal.named-returns-in-item
named-returns-in-item t c = rw c.in-item.is c.item.ensures

pub named-returns-in-object : goal.named-returns-in-object
named-returns-in-object t c = rw c.in-object.is c.object.ensures

pub named-returns-in_default : goal.named-returns-in_default
named-returns-in_default t c =
    let d = tree_data c.args.argument in
    let other = c.in_default in
    other_name _ d (parts_in d) other.not-value other.not-load other.not-pick other.not-follow other.not-each other.not-all other.not-over other.not-item other.not-object

pub pick-returns-in_default : goal.pick-returns-in_default
pick-returns-in_default t c = no_names (λ p. pick p.0 p.1.1) _ _ c.in_default.ensures

pub follow-returns-in_default : goal.follow-returns-in_default
follow-returns-in_default t c = no_names (λ p. follow p.0 p.1.1 p.1.2) _ _ c.in_default.ensures

pub each-returns-in_default : goal.each-returns-in_default
each-returns-in_default t c = no_names (λ p. each p.0 p.1.1 p.1.2) _ _ c.in_default.ensures

pub pick-read_part-requires : goal.pick-read_part-requires
pick-read_part-requires t c = (omega (arith, field_lower (tree_data c.args.argument) _ _ c.in-Some.ensures), tt)

pub follow-read_part-requires : goal.follow-read_part-requires
follow-read_part-requires t c = (omega (arith, link_lower (tree_data c.args.argument) _ _ _ c.in-Some.ensures), tt)

pub each-read_part-requires : goal.each-read_part-requires
each-read_part-requires t c = (omega (arith, link_lower (tree_data c.args.argument) _ _ _ c.in-Some.ensures), tt)

pub read_term-returns-in-Some : goal.read_term-returns-in-Some
read_term-returns-in-Some t c =
    subst (λ (o : Option Tree). IfOk c.named.result (λ t. option_map term_view t ≡ o))
    (one_term _ c.in-Some.name.now (tree_data c.in-Some.argument) c.in-Some.ensures) c.named.ensures

pub pick-returns : goal.pick-returns
pick-returns t c =
    pick_some (tree_data c.args.argument) _ _ c.in_ok-field.field c.in_ok-part.field-0 c.in-Some-2.part
    c.in-Some.ensures c.in_ok-part.ensures c.in-Some-2.is c.in_ok-field.ensures

pub follow-returns : goal.follow-returns
follow-returns t c =
    ap Some (term_view-Follow c.in-Some-2.part c.in_ok-field.field c.in_ok-table.table)
    ∙ link_some follow (tree_data c.args.argument) _ _ _ c.in_ok-part.field-0 c.in-Some-2.part c.in_ok-field.field c.in_ok-table.table
    c.in-Some.ensures c.in_ok-part.ensures c.in-Some-2.is c.in_ok-field.ensures c.in_ok-table.ensures

pub each-returns : goal.each-returns
each-returns t c =
    ap Some (term_view-Each c.in-Some-2.part c.in_ok-field.field c.in_ok-table.table)
    ∙ link_some each (tree_data c.args.argument) _ _ _ c.in_ok-part.field-0 c.in-Some-2.part c.in_ok-field.field c.in_ok-table.table
    c.in-Some.ensures c.in_ok-part.ensures c.in-Some-2.is c.in_ok-field.ensures c.in_ok-table.ensures

pub read_parts-loop-tree-init : goal.read_parts-loop-tree-init
read_parts-loop-tree-init t c = record {
  read = found_first (map term_view c.in_ok-parts.parts.items) _ (ap (map term_view) c.in_ok-parts.ensures.items);
  low = omega arith;
  count = search rules;
}

pub read_parts-read_term-requires : goal.read_parts-read_term-requires
read_parts-read_term-requires t c =
    let l = c.loop-tree in
    let v = c.in-Some.tree in
    let rest = into_iter_items c.next.new.self in
    let steps : into_iter_items l.tree-iterator ≡ v ∷ rest = c.in-Some.ensures.steps.0 in
    let given : into_iter_items c.into_iter-tree-iterator.result ≡ c.args.trees.items = c.into_iter-tree-iterator.ensures.into_iter_gives.0 in
    let first : depth (tree_data v) ≤ items_depth (list_data (into_iter_items l.tree-iterator)) = rw steps (item_within v rest) in
    let low : items_depth (list_data (into_iter_items l.tree-iterator)) ≤ items_depth (list_data c.args.trees.items) = rw given at l.invariant.low in
    (omega arith, tt)

pub read_parts-loop-tree-preserved : goal.read_parts-loop-tree-preserved
read_parts-loop-tree-preserved t c =
    let l = c.loop-tree in
    let v = c.in-Some.tree in
    let rest = into_iter_items c.next.new.self in
    let steps : into_iter_items l.tree-iterator ≡ v ∷ rest = c.in-Some.ensures.steps.0 in
    let found : Some (term_view c.in-Some-2.part) ≡ term_in (tree_data v) = sym (ap (option_map term_view) c.in-Some-2.is) ∙ c.in_ok-part.ensures in
    record {
      read = found_next (λ v. term_in (tree_data v)) (λ vs. together (parts_of (list_data vs))) (λ v vs. refl) (map term_view l.parts.items)
          (into_iter_items l.tree-iterator) rest v _ steps l.invariant.read (map term_view c.push.new.self.items) (term_view c.in-Some-2.part) found
          (ap (map term_view) c.in_ok-push.ensures.items ∙ map-append term_view l.parts.items (c.in-Some-2.part ∷ []));
      low = (
          let less : items_depth (list_data rest) ≤ items_depth (list_data (into_iter_items l.tree-iterator)) = rw steps (rest_within v rest) in
          let was = l.invariant.low in
          omega arith);
      count = (
          let was = l.invariant.count in
          let gone = c.in-Some.ensures.steps.1 in
          let short = ap length steps in
          omega arith);
    }

pub read_parts-returns-in_default : goal.read_parts-returns-in_default
read_parts-returns-in_default t c =
    let l = c.loop-tree in
    let v = c.in-Some.tree in
    let rest = into_iter_items c.next.new.self in
    let steps : into_iter_items l.tree-iterator ≡ v ∷ rest = c.in-Some.ensures.steps.0 in
    let given : into_iter_items c.into_iter-tree-iterator.result ≡ c.args.trees.items = c.into_iter-tree-iterator.ensures.into_iter_gives.0 in
    let none : None ≡ term_in (tree_data v) = sym (ap (option_map term_view) c.in_default.is) ∙ c.in_ok-part.ensures in
    rw given at (found_none (λ v. term_in (tree_data v)) (λ vs. together (parts_of (list_data vs))) (λ v vs. refl)
    (map term_view l.parts.items) (into_iter_items l.tree-iterator) rest v _ steps l.invariant.read none)

pub read_parts-returns : goal.read_parts-returns
read_parts-returns t c =
    let l = c.loop-tree in
    let given : into_iter_items c.into_iter-tree-iterator.result ≡ c.args.trees.items = c.into_iter-tree-iterator.ensures.into_iter_gives.0 in
    all_read c.args.trees.items l.parts (into_iter_items l.tree-iterator) (sym l.invariant.count ∙ c.in-None.ensures.steps.0)
    (rw given at l.invariant.read)

use Rattle.std.proofs.Common.{◌≡◌, ◌∙◌, ap, sym, refl, subst, true, false, [], ◌∷◌, ◌++◌, drop, get_or, length, map, string_bytes, append_assoc, arith, OnOk}
use Rattle.std.proofs.lemmas.List.{drop_all}
use Rattle.serde_json.specs.Data.{array}
use Rattle.serde_json.specs.View.{items_of}
use Rattle.serde_json.specs.Written.{compact_text, items_text}
use Rattle.dl_terms.specs.Named.{label}
use Rattle.dl_terms.proofs.AnswerParts.{list_below, object_below, object_fits, object_tree, text_next}
use Rattle.dl_terms.proofs.NamedParts.{member_text_next}
use Rattle.dl_terms.proofs.answer_value.+writing.Goals as goal

pub push_list-loop-value-init : goal.push_list-loop-value-init
push_list-loop-value-init t c =
    let rest = items_text false (items_of c.deref-value-items.result.now) in
    (false, refl, ap (λ s. s ++ rest) c.in_ok-push_str.ensures.bytes ∙ append_assoc (string_bytes c.args.text.now) (91 ∷ []) rest)

pub push_list-loop-value-preserved : goal.push_list-loop-value-preserved
push_list-loop-value-preserved t c =
    let h = c.loop-value.invariant in (
      true,
      refl,
      text_next c.deref-value-items.result.now c.loop-value.value-index c.value-item.result c.loop-value-test.true c.value-item.is h.0 _ _ _ _ h.2
          (c.in_ok-push_str-2.ensures.bytes ∙ ap (λ s. string_bytes c.loop-value.text ++ s) h.1) c.in_ok-push_value.ensures,
    )

pub push_list-returns : goal.push_list-returns
push_list-returns t c =
    let h = c.loop-value.invariant in
    let values = c.deref-value-items.result.now in
    let none : drop c.loop-value.value-index values ≡ [] = drop_all c.loop-value.value-index values c.loop-value-test.false in
    c.in_ok-push_str-3.ensures.bytes
    ∙ (ap (λ ds. string_bytes c.loop-value.text ++ items_text h.0 (items_of ds)) (sym none)
    ∙ (h.2 ∙ ap (λ ds. string_bytes c.args.text.now ++ compact_text (array (items_of ds))) c.deref-value-items.ensures.value))

pub push_value-push_list-requires : goal.push_value-push_list-requires
push_value-push_list-requires t c =
    let below = list_below c.value.inside.shape c.in-List.values c.args.value.now c.in-List.is c.value.view_is in
    (omega (arith, c.decreases, below), tt)

pub push_object-loop-place-preserved : goal.push_object-loop-place-preserved
push_object-loop-place-preserved t c =
    let h = c.loop-place.invariant in
    let names = c.args.names.now in
    let values = c.deref-value-items.result.now in
    let long : length names ≡ length values = c.requires ∙ ap length (sym c.deref-value-items.ensures.value) in
    let written = c.index-labels-place.result in
    let at : written ≡ get_or (map label names) c.loop-place.place written =
    c.index-labels-place.is ∙ ap (λ ls. get_or ls c.loop-place.place written) c.labels-labels.ensures in (
      true,
      refl,
      member_text_next names values c.loop-place.place c.value-item.result long c.loop-place-test.true c.value-item.is written c.as_str.result.now at
          c.as_str.ensures h.0 _ _ _ _ _ h.2 (c.in_ok-push_str-2.ensures.bytes ∙ ap (λ s. string_bytes c.loop-place.text ++ s) h.1)
          c.in_ok-push_str-3.ensures.bytes c.in_ok-push_value.ensures,
    )

pub push_value-push_object-requires : goal.push_value-push_object-requires
push_value-push_object-requires t c =
    let below =
    object_below c.value.inside.shape c.in-Object.names c.in-Object.values c.args.value.now c.in-Object.is c.value.invariant c.value.view_is in
    (omega (arith, c.decreases, below), (object_fits c.value.inside.shape c.in-Object.names c.in-Object.values c.in-Object.is c.value.invariant).long)

pub push_value-returns-in-Object : goal.push_value-returns-in-Object
push_value-returns-in-Object t c =
    subst (λ d. OnOk c.push_object.result (string_bytes c.push_object.new.text ≡ string_bytes c.args.text.now ++ compact_text d))
    (object_tree c.value.inside.shape c.in-Object.names c.in-Object.values c.args.value.now c.in-Object.is c.value.invariant c.value.view_is)
    c.push_object.ensures

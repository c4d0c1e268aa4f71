use Rattle.std.proofs.Common.{◌≡◌, ◌∙◌, ap, sym, Some, length, bytes_eq}
use Rattle.serde_json.specs.Find.{get_member}
use Rattle.dl_terms.specs.Named.{zipped}
use Rattle.dl_terms.proofs.NamedParts.{found_here, not_here}
use Rattle.dl_terms.proofs.answer_value.object_member.Goals as goal

pub returns-then-eq-clause-member : goal.returns-then-eq-clause-member
returns-then-eq-clause-member c =
    let names = c.as_slice-names.result.now in
    let values = c.deref-value-items.result.now in
    let name = c.args.name.now in
    let long : length names ≡ length values = ap length c.as_slice-names.ensures ∙ (c.requires ∙ ap length (sym c.deref-value-items.ensures.value)) in
    let found = found_here names values c.loop-place.place c.value-item.result long c.loop-place-test.true c.value-item.is name c.index-names-place.result
    c.index-names-place.is c.eq.result (c.eq.ensures ∙ ap (bytes_eq name) c.as_str.ensures) c.if-eq.true (get_member name (zipped names values))
    c.loop-place.invariant in
    let same : get_member name (zipped names values) ≡ get_member name (zipped c.args.names.now c.args.values.now.items) =
    λ j. get_member name (zipped (c.as_slice-names.ensures j) (c.deref-value-items.ensures.value j)) in
    ap Some c.in_ok-to_json.ensures ∙ (sym found ∙ same)

pub loop-place-preserved : goal.loop-place-preserved
loop-place-preserved c =
    let names = c.as_slice-names.result.now in
    let values = c.deref-value-items.result.now in
    let name = c.args.name.now in
    let long : length names ≡ length values = ap length c.as_slice-names.ensures ∙ (c.requires ∙ ap length (sym c.deref-value-items.ensures.value)) in
    not_here names values c.loop-place.place c.value-item.result long c.loop-place-test.true c.value-item.is name c.index-names-place.result
    c.index-names-place.is c.eq.result (c.eq.ensures ∙ ap (bytes_eq name) c.as_str.ensures) c.if-eq.false (get_member name (zipped names values))
    c.loop-place.invariant

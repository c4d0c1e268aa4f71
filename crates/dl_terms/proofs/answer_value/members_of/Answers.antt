use Rattle.std.proofs.Common.{◌≡◌, ◌∙◌, ◌∷◌, [], drop, length, slice_get, ap, sym, arith}
use Rattle.std.proofs.lemmas.List.{append-nil}
use Rattle.serde_json.specs.View.{view, items_view, members_view}
use Rattle.serde_json.specs.Written.{items_have_float, members_have_float}
use Rattle.dl_terms.specs.Joined.{put_named}
use Rattle.dl_terms.proofs.AnswerParts.{last_whole, member_next, none_named}
use Rattle.dl_terms.proofs.answer_value.members_of.Goals as goal

pub loop-value-init : goal.loop-value-init
loop-value-init c = (
  [],
  sym (append-nil c.args.values.items),
  ap members_view c.new-members.ensures.empty ∙ none_named (drop (length c.args.values.items) c.args.names.now),
  ap (λ es. members_have_float (members_view es)) c.new-members.ensures.empty,
  c.requires,
)

pub put_at-requires : goal.put_at-requires
put_at-requires c =
    let h = c.loop-value.invariant in
    (last_whole c.pop.new.self.items c.in-Some.value (ap (λ vs. items_have_float (items_view vs)) (sym c.in-Some.ensures.items) ∙ h.4)).0

pub loop-value-preserved : goal.loop-value-preserved
loop-value-preserved c =
    let h = c.loop-value.invariant in
    let names = c.args.names.now in
    let more = c.pop.new.self.items in
    let before = members_view c.loop-value.members.entries in
    let place : c.len.result ≡ length more = c.len.ensures ∙ (let long = c.pop.new.self.ok.0 in omega arith) in
    let there = c.in_ok-put_at.ensures.put ∙ ap (λ n. put_named (slice_get names n) (view c.in-Some.value) before) place in
    let next = member_next names c.args.values.items c.loop-value.values.items more h.0 c.in-Some.value before (members_view c.put_at.new.members.entries)
    h.1 c.in-Some.ensures.items h.2 there in
    let left = (last_whole more c.in-Some.value (ap (λ vs. items_have_float (items_view vs)) (sym c.in-Some.ensures.items) ∙ h.4)).1 in
    (c.in-Some.value ∷ h.0, next.0, next.1, c.in_ok-put_at.ensures.whole h.3, left)

use Rattle.std.proofs.Common.{◌≡◌, ◌∙◌, ap, map, drop, length, slice_get}
use Rattle.std.specs.List.{position_or_len}
use Rattle.indexmap.specs.IndexSet.{insert_key}
use Rattle.dl_values.specs.Key.{key_eq}
use Rattle.dl_terms.specs.Asked.{paired}
use Rattle.dl_terms.proofs.AskedKeys.{got, outcome_found, ask_keeps, ask_wants}
use Rattle.dl_terms.proofs.asked.Asked.ask.Goals as goal

pub returns-clause-outcome : goal.returns-clause-outcome
returns-clause-outcome c =
    let self = c.args.self.now in
    let place = c.in_ok-place.place in
    let outcomes = self.outcomes.items in
    let copied : c.in_ok-try_copy.field-0 ≡ c.args.key.now = c.in_ok-try_copy.ensures in
    outcome_found self.keys.keys outcomes self.within c.args.key.now c.copied.result
    (c.copied.ensures ∙ (got c.deref.result.now place c.get.result c.get.ensures.lookup ∙ (ap (λ xs. slice_get xs place) c.deref.ensures.value
    ∙ (ap (slice_get outcomes) c.in_ok-place.ensures.index ∙ ap (λ k. slice_get outcomes (position_or_len (key_eq k) self.keys.keys)) copied))))

pub returns-clause-wanted : goal.returns-clause-wanted
returns-clause-wanted c =
    let self = c.args.self.now in
    ap (drop (length self.outcomes.items)) (c.in_ok-place.ensures.keys ∙ ap (insert_key key_eq self.keys.keys) c.in_ok-try_copy.ensures)
    ∙ ask_wants self.keys.keys self.outcomes.items self.within c.args.key.now

pub returns-clause-pairs : goal.returns-clause-pairs
returns-clause-pairs c =
    let self = c.args.self.now in
    ap (λ ks. paired ks (map (λ o. o.now) self.outcomes.items))
    (c.in_ok-place.ensures.keys ∙ ap (insert_key key_eq self.keys.keys) c.in_ok-try_copy.ensures)
    ∙ ask_keeps self.keys.keys self.outcomes.items self.within c.args.key.now

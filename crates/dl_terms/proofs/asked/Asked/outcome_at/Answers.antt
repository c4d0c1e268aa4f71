use Rattle.std.proofs.Common.{◌≡◌, ◌∙◌, ap, sym, map, slice_get, Some}
use Rattle.std.specs.Option.{option_map, option_copied}
use Rattle.std.proofs.lemmas.Option.{slice_get-map}
use Rattle.dl_values.proofs.KeyLemmas.{key_eq-same}
use Rattle.dl_terms.proofs.AskedKeys.{got, outcome_there}
use Rattle.dl_terms.proofs.asked.Asked.outcome_at.Goals as goal

pub returns-in-Some : goal.returns-in-Some
returns-in-Some c =
    let self = c.args.self.now in
    let place = c.args.place in
    let held = c.in-Some.held.now in
    let outcomes = self.outcomes.items in
    let outcome = c.in_ok-outcome.outcome in
    let same : held ≡ c.args.key.now = key_eq-same held c.args.key.now (sym c.eq.ensures ∙ c.if-eq.true) in
    let key : slice_get self.keys.keys place ≡ Some c.args.key.now = ap (λ ks. slice_get ks place) (sym c.as_slice.ensures.keys)
    ∙ (sym (got c.as_slice.result.now place c.get-2.result c.get-2.ensures.lookup) ∙ (ap option_copied c.in-Some.is ∙ ap Some same)) in
    let there : slice_get outcomes place ≡ Some outcome = ap (λ os. slice_get os place) (sym c.deref.ensures.value)
    ∙ (sym (got c.deref.result.now place c.get.result c.get.ensures.lookup) ∙ (sym c.copied.ensures ∙ c.in_ok-outcome.was)) in
    outcome_there self.keys.keys (map (λ o. o.now) outcomes) place c.args.key.now outcome.now c.as_slice.ensures.unique key
    (slice_get-map (λ o. o.now) outcomes place ∙ ap (option_map (λ o. o.now)) there)

use Rattle.std.proofs.Common.{◌∙◌, ap, sym, map, ◌∷◌, []}
use Rattle.std.specs.Prelude.{option_copied}
use Rattle.std.proofs.lemmas.List.{map-append}
use Rattle.dl_picture.proofs.TermLoads.{rounds_end, rounds_more, rounds_other}
use Rattle.dl_picture.proofs.asked.push_round.Goals as goal

pub returns-in_ok-push-in-Some : goal.returns-in_ok-push-in-Some
returns-in_ok-push-in-Some c = λ events at got held.
    let e = c.in-Some.event in
    rounds_more c.args.caller events at e.now (map (λ x. x.now) c.args.rounds.now.items) _ (sym got ∙ ap option_copied c.in-Some.is)
    (sym c.is_round_of.ensures ∙ c.if-is_round_of.true) held
    (ap (map (λ x. x.now)) c.in_ok-push-in-Some.ensures.items ∙ map-append (λ x. x.now) c.args.rounds.now.items (e ∷ []))

pub returns-in_default : goal.returns-in_default
returns-in_default c = λ events at got held.
    rounds_other c.args.caller events at c.in-Some.event.now _ (sym got ∙ ap option_copied c.in-Some.is)
    (sym c.is_round_of.ensures ∙ c.if-is_round_of.false) held

pub returns-in_default-2 : goal.returns-in_default-2
returns-in_default-2 c = λ events at got held. rounds_end c.args.caller events at _ (sym got ∙ ap option_copied c.in_default.is) held

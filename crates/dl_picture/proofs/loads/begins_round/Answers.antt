use Rattle.std.proofs.Common.{◌≡◌, ◌∙◌, sym, ap, true, false, nat_eq, ◌&&◌, eq-eqb}
use Rattle.std.proofs.lemmas.Bool.{ne_eqb}
use Rattle.std.specs.Prelude.{option_copied}
use Rattle.dl_picture.specs.Numbers.{is_round}
use Rattle.dl_picture.proofs.EventCounts.{round_next, round_none}
use Rattle.dl_picture.proofs.loads.begins_round.Goals as goal

pub returns-in-Some : goal.returns-in-Some
returns-in-Some c = λ events at got.
    let e = c.in-Some.event.now in
    let own : nat_eq c.args.caller e.caller ≡ true = eq-eqb c.args.caller e.caller c.if-caller-event.true in
    round_next c.args.caller events at e c.is_round.result (sym got ∙ ap option_copied c.in-Some.is)
    (ap (λ b. b && is_round e.call) own ∙ sym c.is_round.ensures)

pub returns-in_default : goal.returns-in_default
returns-in_default c = λ events at got.
    let e = c.in-Some.event.now in
    let other : nat_eq c.args.caller e.caller ≡ false = ne_eqb c.args.caller e.caller c.if-caller-event.false in
    round_next c.args.caller events at e false (sym got ∙ ap option_copied c.in-Some.is) (ap (λ b. b && is_round e.call) other)

pub returns-in_default-2 : goal.returns-in_default-2
returns-in_default-2 c = λ events at got. round_none c.args.caller events at (sym got ∙ ap option_copied c.in_default.is)

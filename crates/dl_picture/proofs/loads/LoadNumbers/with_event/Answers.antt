use Rattle.std.proofs.Common.{◌∙◌, sym, ap}
use Rattle.std.specs.Prelude.{option_copied}
use Rattle.dl_picture.proofs.EventCounts.{no_event, other_event, own_event_ok}
use Rattle.dl_picture.proofs.loads.LoadNumbers.with_event.Goals as goal

pub returns-in-Some : goal.returns-in-Some
returns-in-Some c =
    own_event_ok c.args.caller (option_copied c.args.event) c.in-Some.event.now c.args.self c.with_reply.result (ap option_copied c.in-Some.is)
    (sym c.is_by.ensures ∙ c.if-is_by.true) c.with_reply.ensures

pub returns-in_default : goal.returns-in_default
returns-in_default c = λ events at got.
    other_event c.args.caller events at c.in-Some.event.now c.args.self (sym got ∙ ap option_copied c.in-Some.is) (sym c.is_by.ensures ∙ c.if-is_by.false)

pub returns-in_default-2 : goal.returns-in_default-2
returns-in_default-2 c = λ events at got. no_event c.args.caller events at c.args.self (sym got ∙ ap option_copied c.in_default.is)

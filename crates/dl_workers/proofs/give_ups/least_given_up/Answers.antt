use Rattle.std.proofs.Common.{◌≡◌, ◌∙◌, ap, sym, slice_get}
use Rattle.std.specs.Prelude.{option_copied}
use Rattle.dl_workers.proofs.Least.{least_event, least_past}
use Rattle.dl_workers.proofs.give_ups.least_given_up.Goals.{in-Some, in_default}
use Rattle.dl_workers.proofs.give_ups.least_given_up.Goals as goal

pub loop-at-preserved : goal.loop-at-preserved
loop-at-preserved c =
    let events = c.args.history.now.events in
    let at = c.loop-at.at in
    let got : option_copied c.get.result ≡ slice_get events at = c.get.ensures ∙ ap (λ es. slice_get es at) c.events-events.ensures in
    elim c.match-get.branch [
      | in-Some w ↦ rw w.least-is (least_event events at w.in-Some.event.now c.loop-at.least w.least_with-least.result
          (sym got ∙ ap option_copied w.in-Some.is) c.loop-at.invariant w.least_with-least.ensures)
      | in_default w ↦ rw w.least-is (least_past events at c.loop-at.least (sym got ∙ ap option_copied w.in_default.is) c.loop-at.invariant)
    ]

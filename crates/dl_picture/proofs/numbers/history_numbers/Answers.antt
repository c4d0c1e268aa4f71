use Rattle.std.proofs.Common.{List, subst, None}
use Rattle.dl_desk.specs.Events.{atoms}
use Rattle.dl_history.specs.History.{past}
use Rattle.dl_desk.specs.declared.event.Event.{Event}
use Rattle.dl_picture.specs.Numbers.{AreBatchNumbers, AreLoadNumbers, events_by, load_replies}
use Rattle.dl_picture.proofs.EventCounts.{all_events}
use Rattle.dl_picture.proofs.numbers.history_numbers.Goals as goal

pub returns : goal.returns
returns c =
    let loads = c.in_ok-load_numbers.field-0 in
    let batches = c.in_ok-batch_numbers.field-0 in
    record {
      loads = subst (λ (es : List Event). AreLoadNumbers (load_replies es) loads) (all_events c.args.history.now.events)
          (subst (λ (es : List Event). AreLoadNumbers (load_replies (events_by None es)) loads) c.events.ensures c.in_ok-load_numbers.ensures);
      batches = subst (λ (es : List Event). AreBatchNumbers (atoms (past es)) batches) c.batches.ensures c.in_ok-batch_numbers.ensures;
    }

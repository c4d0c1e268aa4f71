use Rattle.std.proofs.Common.{◌≡◌, ◌∙◌, [], ap, append-nil, sym, subst, refl, length, map, rules, Err, None, inl}
use Rattle.std.proofs.lemmas.List.{length-map, with_items_is}
use Rattle.std.proofs.lemmas.Result.{IfOk-from_err, err_from_is_err_and}
use Rattle.std.specs.Vec.{with_items}
use Rattle.dl_values.proofs.Errors.{on_err}
use Rattle.dl_desk.specs.Service.{Service}
use Rattle.dl_desk.specs.declared.event.Call.TheVariants.{LoadMany, Dispatch}
use Rattle.dl_desk.specs.declared.event.Reply.TheVariants.{Many, Sent}
use Rattle.dl_loader.specs.Additions.{Grows}
use Rattle.dl_loader.proofs.AdditionLemmas.{grows_after}
use Rattle.dl_loader.proofs.TicketsStay.{keeps_after, keeps_made, keeps_same}
use Rattle.dl_loader.specs.Pass.{Trace}
use Rattle.dl_haxl.specs.Pairs.{all_show, outcomes_shown}
use Rattle.dl_haxl.specs.Inside.Reads.{GaveFresh, Reads}
use Rattle.dl_haxl.specs.Rounds.{AddsAndSends, Round}
use Rattle.dl_haxl.proofs.Faults.{fault_of_same}
use Rattle.dl_haxl.proofs.TicketReads.{reply_of, reads_shown}
use Rattle.dl_haxl.proofs.RoundSteps.{Steps, made_grows, two_grow, round_made, round_front, round_keeps, still_gave, none_sent}
use Rattle.dl_haxl.proofs.evaluator.Evaluator.round.Goals as goal

pub returns-in_err-tickets : goal.returns-in_err-tickets
returns-in_err-tickets g c =
    let old = c.args.pass.now.trace in
    let err = c.from_residual.ensures.0 in
    record {
      fits = c.requires.fits;
      round = IfOk-from_err _ _ err;
      shown = IfOk-from_err _ _ err;
      each = IfOk-from_err _ _ err;
      front = IfOk-from_err _ _ err;
      bound = IfOk-from_err _ _ err;
      sent = none_sent (g.O.Outlet.sent_by c.args.seat.now);
      older = keeps_same old c.load_many.new.pass.trace (ap (λ (p : Trace). p.tickets) c.in_err-tickets.ensures.unchanged);
      fault =
          (let p = err_from_is_err_and c.from_residual.result c.from_residual.ensures.1 in
          rw (p.1, p.2) (old, LoadMany c.args.wanted.now, None, refl, c.in_err-tickets.ensures.fault, c.in_err-tickets.ensures.knows));
      grows = on_err c.from_residual.result (subst (Grows old) (sym c.in_err-tickets.ensures.unchanged) (refl, [], sym (append-nil old.entries)));
    }

pub returns-in_err-jobs : goal.returns-in_err-jobs
returns-in_err-jobs g c =
    let s : Service = g.L.LoaderName.service in
    let old = c.args.pass.now.trace in
    let loaded = c.load_many.new.pass.trace in
    let replies = map reply_of c.in_ok-tickets.tickets.items in
    let loads = made_grows s old loaded (LoadMany c.args.wanted.now) (Many replies) c.in_ok-tickets.ensures.made in
    let err = c.from_residual-in_err-jobs.ensures.0 in
    let r = c.from_residual-in_err-jobs.result in
    record {
      fits = c.requires.fits;
      round = IfOk-from_err _ _ err;
      shown = IfOk-from_err _ _ err;
      each = IfOk-from_err _ _ err;
      front = IfOk-from_err _ _ err;
      bound = IfOk-from_err _ _ err;
      sent = none_sent (g.O.Outlet.sent_by c.args.seat.now);
      older = keeps_after old loaded c.gather.new.pass.trace
          (keeps_made s old loaded (LoadMany c.args.wanted.now) (Many replies) c.in_ok-tickets.ensures.made)
          (keeps_same loaded c.gather.new.pass.trace (ap (λ (p : Trace). p.tickets) c.in_err-jobs.ensures.unchanged));
      fault =
          (let p = err_from_is_err_and c.from_residual-in_err-jobs.result c.from_residual-in_err-jobs.ensures.1 in
          rw (p.1, p.2) (loaded, Dispatch, None, loads.0, c.in_err-jobs.ensures.fault, c.in_err-jobs.ensures.knows));
      grows = on_err r (subst (Grows old) (sym c.in_err-jobs.ensures.unchanged)
          loads);
    }

pub returns-in_err-give_out : goal.returns-in_err-give_out
returns-in_err-give_out g c =
    let s : Service = g.L.LoaderName.service in
    let old = c.args.pass.now.trace in
    let dispatched = c.gather.new.pass.trace in
    let replies = map reply_of c.in_ok-tickets.tickets.items in
    let sent = two_grow s old c.load_many.new.pass.trace dispatched (LoadMany c.args.wanted.now) Dispatch (Many replies) (Sent c.in_ok-jobs.jobs.items)
    c.in_ok-tickets.ensures.made c.in_ok-jobs.ensures.made in
    let same : c.from_residual-in_err-give_out.result ≡ Err c.in_err-give_out.field-0.0 = search rules in
    let err = c.from_residual-in_err-give_out.ensures.0 in
    let r = c.from_residual-in_err-give_out.result in
    record {
      fits = c.give_out.ensures.fits;
      round = IfOk-from_err _ _ err;
      shown = IfOk-from_err _ _ err;
      each = IfOk-from_err _ _ err;
      front = IfOk-from_err _ _ err;
      bound = IfOk-from_err _ _ err;
      sent = c.give_out.ensures.sent;
      older = keeps_after old c.load_many.new.pass.trace c.give_out.new.pass.trace
          (keeps_made s old c.load_many.new.pass.trace (LoadMany c.args.wanted.now) (Many replies) c.in_ok-tickets.ensures.made)
          (keeps_same c.load_many.new.pass.trace c.give_out.new.pass.trace (c.give_out.ensures.tickets ∙ c.in_ok-jobs.ensures.tickets));
      fault = rw same
          (fault_of_same s dispatched.caller old.caller c.give_out.new.pass.flags c.in_err-give_out.field-0.0 sent.0 c.in_err-give_out.ensures.fault);
      grows = on_err r (grows_after old dispatched c.give_out.new.pass.trace sent c.in_err-give_out.ensures.grows);
    }

pub give_out-requires : goal.give_out-requires
give_out-requires g c = record { fits = c.requires.fits }

pub read_each-requires : goal.read_each-requires
read_each-requires g c =
    let loaded = c.load_many.new.pass.trace in
    let first = length c.args.pass.now.trace.tickets in
    let ts = c.in_ok-tickets.tickets.items in
    let same = c.in_ok-give_out.ensures.tickets ∙ c.in_ok-jobs.ensures.tickets in
    let still = still_gave loaded c.give_out.new.pass.trace first ts same c.in_ok-tickets.ensures.gave in
    record { gave = subst (GaveFresh c.give_out.new.pass.trace) (sym c.as_mut_slice.ensures.value) (first, still) }

pub returns-in_err-read_each : goal.returns-in_err-read_each
returns-in_err-read_each g c =
    let s : Service = g.L.LoaderName.service in
    let old = c.args.pass.now.trace in
    let dispatched = c.gather.new.pass.trace in
    let ended = c.give_out.new.pass.trace in
    let replies = map reply_of c.in_ok-tickets.tickets.items in
    let sent = two_grow s old c.load_many.new.pass.trace dispatched (LoadMany c.args.wanted.now) Dispatch (Many replies) (Sent c.in_ok-jobs.jobs.items)
    c.in_ok-tickets.ensures.made c.in_ok-jobs.ensures.made in
    let ends = c.in_ok-give_out.ensures.gives_out.2 in
    let err = c.from_residual-in_err-read_each.ensures.0 in
    let r = c.from_residual-in_err-read_each.result in
    record {
      fits = c.give_out.ensures.fits;
      round = IfOk-from_err _ _ err;
      shown = IfOk-from_err _ _ err;
      each = IfOk-from_err _ _ err;
      front = IfOk-from_err _ _ err;
      bound = IfOk-from_err _ _ err;
      sent = c.give_out.ensures.sent;
      older = round_keeps old c.load_many.new.pass.trace ended c.read_each.new.pass.trace c.in_ok-tickets.tickets.items c.as_mut_slice.result.now
          (keeps_made s old c.load_many.new.pass.trace (LoadMany c.args.wanted.now) (Many replies) c.in_ok-tickets.ensures.made)
          c.in_ok-tickets.ensures.gave c.as_mut_slice.ensures.value (c.in_ok-give_out.ensures.tickets ∙ c.in_ok-jobs.ensures.tickets)
          c.read_each.ensures.others;
      fault =
          (let p = err_from_is_err_and c.from_residual-in_err-read_each.result c.from_residual-in_err-read_each.ensures.1 in
          rw (p.1, p.2) (inl c.in_err-read_each.ensures.stopped));
      grows = on_err r (grows_after old ended c.read_each.new.pass.trace
          (grows_after old dispatched ended sent (ends.0, ends.1, ends.2)) c.in_err-read_each.ensures.grows);
    }

pub returns : goal.returns
returns g c =
    let s : Service = g.L.LoaderName.service in
    let old = c.args.pass.now.trace in
    let new = c.read_each.new.pass.trace in
    let before = g.O.Outlet.sent_by c.args.seat.now in
    let after = g.O.Outlet.sent_by c.give_out.new.seat in
    let wanted = c.args.wanted.now in
    let v = c.in_ok-tickets.tickets in
    let ws = c.read_each.new.tickets in
    let steps : Steps g.O.Outlet.jobs_end s old new before after wanted v.items ws = record {
      loaded = c.load_many.new.pass.trace;
      dispatched = c.gather.new.pass.trace;
      ended = c.give_out.new.pass.trace;
      jobs = c.in_ok-jobs.jobs.items;
      load = c.in_ok-tickets.ensures.made;
      each = c.in_ok-tickets.ensures.each;
      dispatch = c.in_ok-jobs.ensures.made;
      gives_out = c.in_ok-give_out.ensures.gives_out;
      reads = subst (λ ts. Reads c.give_out.new.pass.trace new ts ws) c.as_mut_slice.ensures.value c.in_ok-read_each.ensures.reads;
    } in
    let long : length ws ≡ v.len = sym (length-map ws reply_of) ∙ (ap length steps.reads.replies ∙ (length-map v.items reply_of ∙ search rules)) in
    let items : (with_items v ws).items ≡ ws = with_items_is v ws long in
    let round = round_made g.O.Outlet.jobs_end s old new before after wanted v.items ws steps in
    record {
      fits = c.give_out.ensures.fits;
      round = subst (λ ts. AddsAndSends old new before after
          (λ lines sent. Round (g.O.Outlet.jobs_end old.caller) old.caller wanted lines (outcomes_shown ts) sent)) (sym items) round;
      shown = ap all_show items ∙ (reads_shown ws steps.reads.endings steps.reads.known).0;
      each = search rules;
      front = round_front g.O.Outlet.jobs_end s old new before after wanted v.items ws steps;
      bound = search rules;
      sent = c.give_out.ensures.sent;
      older = round_keeps old c.load_many.new.pass.trace c.give_out.new.pass.trace new v.items c.as_mut_slice.result.now
          (keeps_made s old c.load_many.new.pass.trace (LoadMany wanted) (Many (map reply_of v.items)) c.in_ok-tickets.ensures.made)
          c.in_ok-tickets.ensures.gave c.as_mut_slice.ensures.value (c.in_ok-give_out.ensures.tickets ∙ c.in_ok-jobs.ensures.tickets)
          c.read_each.ensures.others;
      fault = tt;
      grows = tt;
    }

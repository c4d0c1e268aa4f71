use Rattle.std.proofs.Common.{◌≡◌, ◌∙◌, ◌<◌, ap, subst, length, map, set, arith}
use Rattle.std.proofs.Math.Seq.{map-set_same}
use Rattle.std.proofs.lemmas.List.{length-map, map-set}
use Rattle.std.proofs.lemmas.Result.{err_from_is_err_and}
use Rattle.dl_history.specs.Flags.{KnownFlags}
use Rattle.dl_loader.specs.SerialLoader.{Serial, IsMade, IsRefused, book_if, serial}
use Rattle.dl_loader.proofs.SerialLemmas.{caller_stays, makes_as, part_at, serial_set}
use Rattle.dl_loader.proofs.serial_loader.SerialLoader.call.Goals as goal

pub invariant_of-self : goal.invariant_of-self
invariant_of-self g c =
    let s = c.self.inside in
    let unchanged = c.in_err-reply.ensures.unchanged in
    let passes = map-set_same (λ p. p.trace) s.passes.items c.args.caller c.make.new.pass c.index_mut-pass.result.now
    (unchanged.1 ∙ ap (λ p. p.trace) c.index_mut-pass.ensures.value) in
    rw (unchanged.0, passes) c.self.invariant

pub returns-in_err-reply-clause-fault : goal.returns-in_err-reply-clause-fault
returns-in_err-reply-clause-fault g c =
    let s = c.self.inside in
    let many = length-map s.passes.items (λ p. p.trace) in
    let shown = ap (λ (x : Serial). length x.traces) c.self.view_is in
    let low : c.args.caller < length s.passes.items = omega (arith, c.requires.caller, many, shown) in
    let at = part_at (λ p. p.trace) s.passes.items c.args.caller c.index_mut-pass.result.now c.index_mut-pass.ensures.value low in
    let p = err_from_is_err_and c.from_residual.result c.from_residual.ensures.1 in
    let Refused = λ (x : Serial). IsRefused g.L.LoaderName.service c.args.caller (g.C.EventCall.call c.args.call.now) (g.C.EventCall.job c.args.call.now) x
    c.in_err-reply.field-0.0 in
    rw (p.1, p.2) (subst Refused c.self.view_is (c.index_mut-pass.result.now.trace, at, c.in_err-reply.ensures.fault))

pub returns-in_err-reply-clause-unchanged : goal.returns-in_err-reply-clause-unchanged
returns-in_err-reply-clause-unchanged g c =
    let s = c.self.inside in
    let unchanged = c.in_err-reply.ensures.unchanged in
    let passes = map-set_same (λ p. p.trace) s.passes.items c.args.caller c.make.new.pass c.index_mut-pass.result.now
    (unchanged.1 ∙ ap (λ p. p.trace) c.index_mut-pass.ensures.value) in
    let p = err_from_is_err_and c.from_residual.result c.from_residual.ensures.1 in
    let same : serial (book_if s.stopped c.make.new.book) (map (λ p. p.trace) (set s.passes.items c.args.caller c.make.new.pass)) ≡ c.args.self.now =
    rw (unchanged.0, passes) c.self.view_is in
    rw p.1 same

pub invariant_of-self-2 : goal.invariant_of-self-2
invariant_of-self-2 g c =
    let s = c.self.inside in
    let is = c.self.invariant in
    let made = c.in_ok-reply.ensures.made in
    let old = c.index_mut-pass.result.now.trace in
    let new = c.make.new.pass.trace in
    let passes = length-map s.passes.items (λ p. p.trace) in
    let shown = ap (λ (x : Serial). length x.traces) c.self.view_is in
    let low : c.args.caller < length s.passes.items = omega (arith, c.requires.caller, passes, shown) in
    let at = part_at (λ p. p.trace) s.passes.items c.args.caller c.index_mut-pass.result.now c.index_mut-pass.ensures.value low in
    let running = ap (λ (f : KnownFlags). f.stopped) made.flags ∙ is.unstopped in
    rw (map-set (λ p. p.trace) s.passes.items c.args.caller c.make.new.pass) (serial_set c.args.caller old new is running at (caller_stays made))

pub returns-clause-made : goal.returns-clause-made
returns-clause-made g c =
    let s = c.self.inside in
    let made = c.in_ok-reply.ensures.made in
    let many = length-map s.passes.items (λ p. p.trace) in
    let shown = ap (λ (x : Serial). length x.traces) c.self.view_is in
    let low : c.args.caller < length s.passes.items = omega (arith, c.requires.caller, many, shown) in
    let at = part_at (λ p. p.trace) s.passes.items c.args.caller c.index_mut-pass.result.now c.index_mut-pass.ensures.value low in
    let after = serial (book_if s.stopped c.make.new.book) (map (λ p. p.trace) (set s.passes.items c.args.caller c.make.new.pass)) in
    let Made = λ (x : Serial). IsMade c.args.caller (g.C.EventCall.call c.args.call.now) (g.C.EventCall.told c.in_ok-reply.reply) x after in
    subst Made c.self.view_is (record {
      before = c.index_mut-pass.result.now.trace;
      after = c.make.new.pass.trace;
      of_caller = at;
      number = c.self.invariant.numbered c.args.caller c.index_mut-pass.result.now.trace at;
      made = makes_as s.stopped made;
      others = map-set (λ p. p.trace) s.passes.items c.args.caller c.make.new.pass;
    })

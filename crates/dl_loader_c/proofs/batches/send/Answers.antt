use Rattle.std.proofs.Common.{◌≡◌, ◌∙◌, ap, arith}
use Rattle.dl_desk.specs.declared.event.Call.TheVariants.{Dispatch}
use Rattle.dl_desk.specs.declared.event.Reply.TheVariants.{Sent}
use Rattle.dl_c_values.specs.declared.answers.Dispatched.{Dispatched}
use Rattle.dl_c_values.specs.declared.codes.TheConstants.{DONE}
use Rattle.dl_c_values.specs.Answers.{sent_as}
use Rattle.dl_loader_c.proofs.Told.{in_a_row, makes}
use Rattle.dl_loader_c.proofs.batches.send.Goals as goal

pub returns-in-Ok : goal.returns-in-Ok
returns-in-Ok g c =
    let own = g.L.LoaderName.service in
    let jobs = c.in-Ok.jobs.items in
    let old = c.args.loader.now in
    let new = c.dispatch.new.self in
    let made = makes own c.args.caller Dispatch (Sent jobs) old new c.keeps.ensures c.in-Ok.ensures.made in
    let is = c.sent.ensures ∙ ap sent_as c.deref.ensures.value in
    let code : c.sent.result.code ≡ DONE = ap (λ (a : Dispatched). a.code) is in
    record {
      made = λ _. (jobs, is, in_a_row own c.args.caller jobs c.sent.result old new is made, made);
      refused = λ low. absurd (omega (arith, low, code));
    }

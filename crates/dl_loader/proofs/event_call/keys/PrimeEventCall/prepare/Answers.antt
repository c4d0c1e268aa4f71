use Rattle.std.proofs.Common.{◌∙◌, refl}
use Rattle.dl_loader.proofs.Preparations.{prime_prepared}
use Rattle.dl_loader.proofs.event_call.keys.PrimeEventCall.prepare.Goals as goal

pub returns-clause-prepared : goal.returns-clause-prepared
returns-clause-prepared c =
    let call = c.args.self.now in
    rw c.prime_told.ensures
    (prime_prepared call.key.now call.outcome.now c.in_ok-reply.reply c.in_ok-reply.ensures.reply c.in_ok-reply.ensures.accepted
    (rw (c.in_ok-outcome.ensures ∙ c.in_ok-try_copy.ensures, c.in_ok-try_copy-2.ensures) refl) (rw c.cell_primed.ensures at c.in_ok-dues.ensures))

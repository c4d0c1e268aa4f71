use Rattle.std.proofs.Common.{◌∙◌, ap, sym, length}
use Rattle.dl_terms.specs.Asked.{wanted_of}
use Rattle.dl_haxl.specs.Run.{wanted_at}
use Rattle.dl_haxl.proofs.Exploration.{learning_not_wanting}
use Rattle.dl_haxl.proofs.run.TermRun.supply.Goals as goal

pub invariant_of-self : goal.invariant_of-self
invariant_of-self g c =
    let run = c.args.self.now in
    record {
      supplied = λ _. record { each = sym (c.requires.each ∙ ap (λ s. length (wanted_at s (wanted_of run.asked))) c.in-Wanting.is) };
      waiting = λ wanting. absurd (learning_not_wanting wanting);
    }

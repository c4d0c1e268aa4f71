use Rattle.std.proofs.Common.{◌∙◌, ap, sym}
use Rattle.dl_terms.specs.Asked.{wanted_of}
use Rattle.dl_haxl.specs.Run.{wanted_at}
use Rattle.dl_haxl.proofs.run.TermRun.wanted.Goals as goal

pub returns-in-Wanting : goal.returns-in-Wanting
returns-in-Wanting g c = c.wanted.ensures ∙ sym (ap (λ s. wanted_at s (wanted_of c.args.self.now.asked)) c.in-Wanting.is)

use Rattle.std.proofs.Common.{ℕ, Option, subst}
use Rattle.dl_loader.specs.CloseRefusals.{IsLeastOf}
use Rattle.dl_loader.proofs.CloseLemmas.{least_lesser}
use Rattle.dl_loader.proofs.loader.unshown.least_of.Goals as goal

pub returns-in-Some : goal.returns-in-Some
returns-in-Some c ns found = rw c.min.ensures (least_lesser ns c.in-Some.least c.args.cell (subst (λ (o : Option ℕ). IsLeastOf o ns) c.in-Some.is found))

use Rattle.dl_terms.proofs.Substitution.{substituted, over_is_all, as_deep}
use Rattle.dl_terms.proofs.laws.gives_by_substitution.Goals as goal

pub returns : goal.returns
returns c = (substituted, over_is_all, as_deep)

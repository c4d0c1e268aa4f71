use Rattle.dl_terms.proofs.NamedParts.{first_is}
use Rattle.dl_terms.proofs.names.are_ascending.Goals as goal

pub loop-place-init : goal.loop-place-init
loop-place-init c = first_is c.args.names.now

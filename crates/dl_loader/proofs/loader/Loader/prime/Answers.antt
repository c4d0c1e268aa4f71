use Rattle.std.proofs.Common.{arith}
use Rattle.dl_loader.proofs.loader.Loader.prime.Goals as goal

pub returns-clause-made : goal.returns-clause-made
returns-clause-made g c = rw c.prime_reply.ensures.told c.in_ok-reply.ensures.made

pub returns-clause-refused : goal.returns-clause-refused
returns-clause-refused g c = λ some. let few = c.prime_reply.ensures.refused in c.in_ok-reply.ensures.refused (omega (arith, some, few))

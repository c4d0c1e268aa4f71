use Rattle.dl_terms.proofs.AskedKeys.{first_learned}
use Rattle.dl_terms.proofs.asked.Asked.learn.Goals as goal

pub returns : goal.returns
returns c =
    let self = c.args.self.now in
    let first = first_learned self.keys.keys self.outcomes.items c.push.new.self.items c.args.outcome c.requires c.in_ok-push.ensures.items in
    record { key = first.0; wanted = first.1; pairs = first.2 }

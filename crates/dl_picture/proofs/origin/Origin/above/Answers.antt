use Rattle.dl_picture.proofs.FaultOrigins.{leads_above}
use Rattle.dl_picture.proofs.origin.Origin.above.Goals as goal

pub returns : goal.returns
returns c = λ known t q is comes leftmost faults. record {
  part = comes.part;
  whose = comes.whose;
  path = leads_above known t q comes.part c.args.self.fault c.args.self.path.items c.push.new.self.items _
      c.in_ok-push.ensures.items is faults leftmost comes.path;
  met = comes.met;
}

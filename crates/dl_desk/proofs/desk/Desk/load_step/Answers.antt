use Rattle.dl_desk.proofs.Steps.{put_reply, put_stands}
use Rattle.dl_desk.proofs.desk.Desk.load_step.Goals as goal

pub returns-in-Ok-clause-reply : goal.returns-in-Ok-clause-reply
returns-in-Ok-clause-reply c = λ history stands. put_reply c.args.self.now.prepared c.put.new.self.prepared history c.args.key.now _ stands c.in-Ok.ensures.put

pub returns-in-Ok-clause-stands : goal.returns-in-Ok-clause-stands
returns-in-Ok-clause-stands c =
    λ history stands. put_stands c.args.self.now.prepared c.put.new.self.prepared history c.args.key.now _ stands c.in-Ok.ensures.put

use Rattle.dl_desk.proofs.MemoPlaces.{is_there, same_at}
use Rattle.dl_desk.proofs.desk.Desk.prepare_kept_load.Goals as goal

pub kept-requires : goal.kept-requires
kept-requires c = is_there c.load_step.new.self.prepared.memo c.in_ok-reply.place c.args.key.now c.in_ok-reply.ensures.place

pub returns-in-Ok-clause-key : goal.returns-in-Ok-clause-key
returns-in-Ok-clause-key c =
    same_at c.load_step.new.self.prepared.memo c.in_ok-reply.place c.in-Ok.kept c.args.key.now c.in-Ok.ensures c.in_ok-reply.ensures.place

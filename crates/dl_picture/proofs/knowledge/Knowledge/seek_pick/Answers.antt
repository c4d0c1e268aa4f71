use Rattle.std.proofs.Common.{subst}
use Rattle.dl_picture.specs.Asking.{known_of}
use Rattle.dl_picture.specs.Seeking.{EndsInside}
use Rattle.dl_picture.proofs.FaultOrigins.{over_pick}
use Rattle.dl_picture.proofs.knowledge.Knowledge.seek_pick.Goals as goal

pub returns-in-Ok : goal.returns-in-Ok
returns-in-Ok c = λ t q whose is ends.
    let known = known_of c.args.self.now in
    let has = subst (EndsInside known t q) c.in-Ok.is (c.in_ok-value.ensures.ends t q whose (over_pick known t q c.args.field.now is) ends) in
    c.pick_of.ensures t q has whose is

pub returns-in-Err : goal.returns-in-Err
returns-in-Err c = λ t q whose is ends.
    let known = known_of c.args.self.now in
    subst (EndsInside known t q) c.in-Err.is (c.in_ok-value.ensures.ends t q whose (over_pick known t q c.args.field.now is) ends)

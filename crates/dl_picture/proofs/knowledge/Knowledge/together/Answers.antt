use Rattle.std.proofs.Common.{subst}
use Rattle.std.specs.Prelude.{IfSome}
use Rattle.std.specs.List.{AllZip}
use Rattle.dl_picture.specs.Asking.{joint_by, known_of}
use Rattle.dl_picture.specs.FaultPath.{EndsWith}
use Rattle.dl_picture.specs.Seeking.{Gathers}
use Rattle.dl_picture.proofs.FaultOrigins.{all_faults, all_first, all_values, together_leftmost}
use Rattle.dl_picture.proofs.knowledge.Knowledge.together.Goals as goal

pub returns-in-Ok : goal.returns-in-Ok
returns-in-Ok c = λ t ts is own some none.
    let known = known_of c.args.self.now in
    let j = joint_by c.args.names in
    let es = c.in-Some.endings.items in
    let z : AllZip (EndsWith known) ts es = subst (λ o. IfSome o (λ v. AllZip (EndsWith known) ts v.items)) c.in-Some.is some in
    let g = subst (Gathers j es) c.in-Ok.is c.in_ok-value-in-Some.ensures in
    all_values known t j c.args.number ts es g.0 c.in-Ok.value own z g.1 g.2

pub returns-in_ok-above-in-Err : goal.returns-in_ok-above-in-Err
returns-in_ok-above-in-Err c = λ t ts is own some none.
    let known = known_of c.args.self.now in
    let j = joint_by c.args.names in
    let es = c.in-Some.endings.items in
    let o = c.in-Err.origin in
    let z : AllZip (EndsWith known) ts es = subst (λ o. IfSome o (λ v. AllZip (EndsWith known) ts v.items)) c.in-Some.is some in
    let g = subst (Gathers j es) c.in-Err.is c.in_ok-value-in-Some.ensures in
    let first = all_first known ts es g.0 o g.1 c.in-Err.place z g.2 g.3 in
    c.in_ok-above-in-Err.ensures known t first.part is first.comes (together_leftmost known t j c.args.number ts c.in-Err.place o first own)
    (all_faults known t j c.args.number ts es g.0 o g.1 own z g.2)

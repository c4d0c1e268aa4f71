use Rattle.dl_replay.proofs.FileFaults.{script_fault, told_fault}
use Rattle.dl_replay.proofs.file.history_in.Goals as goal

pub returns-in-Err-clause-err : goal.returns-in-Err-clause-err
returns-in-Err-clause-err c =
    script_fault c.args.bytes.now c.split_lines.result.0.now c.in-Err.fault c.split_lines.ensures.first c.in-Err.ensures.err

pub returns-in-Err-told_of-clause-err : goal.returns-in-Err-told_of-clause-err
returns-in-Err-told_of-clause-err c =
    told_fault c.args.bytes.now c.split_lines.result.0.now c.split_lines.result.1.now c.in-Ok.script c.in-Err-told_of.fault
    c.split_lines.ensures.first c.split_lines.ensures.next c.in-Ok.ensures.ok c.in-Err-told_of.ensures.err

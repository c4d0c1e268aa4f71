use Rattle.dl_replay.proofs.file.script_in.Goals as goal

pub returns-in-Ok-Plans-clause-err : goal.returns-in-Ok-Plans-clause-err
returns-in-Ok-Plans-clause-err c =
    let ok = rw c.in-Ok-Plans.field-0-is at c.in-Ok-Plans.ensures.ok in
    (c.in-Ok-Plans.field-0-0, ok.0, ok.1, ok.2)

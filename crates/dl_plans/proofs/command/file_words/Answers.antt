use Rattle.dl_plans.proofs.command.file_words.Goals as goal

pub returns : goal.returns
returns c =
    let serving = c.with-words-2.ensures _ _ c.max_answer.ensures.rule (c.with-words.ensures _ _ c.workers.ensures.rule c.program.ensures) in
    let told = c.with-words-4.ensures _ _ c.explain.ensures.rule (c.with-words-3.ensures _ _ c.batches.ensures.rule serving) in
    let drawn = c.with-words-6.ensures _ _ c.picture.ensures.rule (c.with-words-5.ensures _ _ c.statistics.ensures.rule told) in
    let read = c.with-words-8.ensures _ _ c.database.ensures.rule (c.with-words-7.ensures _ _ c.trace.ensures.rule drawn) in
    c.with.ensures _ _ c.history.ensures.rule read

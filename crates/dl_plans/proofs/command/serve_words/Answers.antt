use Rattle.dl_plans.proofs.command.serve_words.Goals as goal

pub returns : goal.returns
returns c =
    let serving = c.with-words-2.ensures _ _ c.bounded_answer.ensures.rule (c.with-words.ensures _ _ c.workers.ensures.rule c.server.ensures) in
    c.with.ensures _ _ c.tables.ensures.rule (c.with-words-3.ensures _ _ c.database.ensures.rule serving)

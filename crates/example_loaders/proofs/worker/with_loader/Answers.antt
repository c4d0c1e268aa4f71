use Rattle.example_loaders.proofs.worker.with_loader.Goals as goal

pub take_turns-requires : goal.take_turns-requires
take_turns-requires g c = rw (← c.requires.source) c.requires.names.answers

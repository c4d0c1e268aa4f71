use Rattle.dl_migration.proofs.migration.migrated_text.Goals as goal

pub returns-clause-text : goal.returns-clause-text
returns-clause-text c = rw c.in_ok-with_version.ensures at c.to_string.ensures.text

pub returns-clause-again : goal.returns-clause-again
returns-clause-again c = rw c.in_ok-with_version.ensures at c.to_string.ensures.reads_back

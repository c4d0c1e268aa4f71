use Rattle.dl_migration.proofs.LaterVersion as law
use Rattle.dl_plans.proofs.laws.migrated_reads_the_same.Goals as goal

pub returns : goal.returns
returns c = law.migrated_reads_the_same

use Rattle.std.proofs.Common.{length}
use Rattle.dl_history.proofs.pass.audit.+audit_with.Given as goal

abbrev pub decreases-audit_with : goal.decreases-audit_with
decreases-audit_with g l = length l.passes.now

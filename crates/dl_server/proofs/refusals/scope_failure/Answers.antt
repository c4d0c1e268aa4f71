use Rattle.std.proofs.Common.{ap, sym}
use Rattle.json.specs.Print.{escape_byte}
use Rattle.dl_server.specs.RefusalJson.{scope_fault_json}
use Rattle.dl_server.proofs.refusals.scope_failure.Goals as goal

pub returns-in-TooManyPlans : goal.returns-in-TooManyPlans
unfolding escape_byte
returns-in-TooManyPlans c = ap scope_fault_json (sym c.in-TooManyPlans.is)

pub returns-in-OutOfMemory : goal.returns-in-OutOfMemory
unfolding escape_byte
returns-in-OutOfMemory c = ap scope_fault_json (sym c.in-OutOfMemory.is)

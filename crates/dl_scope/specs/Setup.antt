-- What serves plans.
use Rattle.std.specs.Prelude.{ℕ, ◌+◌}
use Rattle.dl_values.specs.Answering.{Answering}
use Rattle.dl_values.specs.Limits.{rules_by}
use Rattle.dl_desk.specs.Service.{Service, service}
use Rattle.dl_scope.specs.declared.setup.Setup.{Setup}

-- what serves plans: its callers are the plans and then the workers, and its source may answer so
abbrev pub service_of : Setup → ℕ → Answering → Service
service_of setup plans answer = service (rules_by setup.limits setup.tables) (plans + setup.workers) answer

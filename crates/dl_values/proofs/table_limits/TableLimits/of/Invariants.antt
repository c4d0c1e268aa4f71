-- The tables so far, each once.
use Rattle.std.proofs.Common.{◌≡◌, take, drop}
use Rattle.dl_values.specs.TableLimits.{named, pairs, repeats, GiveTheSame}
use Rattle.dl_values.proofs.Repeats.{clashes}
use Rattle.dl_values.proofs.table_limits.TableLimits.of.Given as goal

abbrev pub invariant-loop-limit : goal.invariant-loop-limit
invariant-loop-limit l = record {
  copied : GiveTheSame (named l.map.entries) (take l.limit-index (pairs l.limits));
  rest : clashes (take l.limit-index (pairs l.limits)) (drop l.limit-index (pairs l.limits)) ≡ repeats (pairs l.limits);
}

use Rattle.std.proofs.Common.{◌≡◌, ◌≤◌, ◌+◌, length, map, vec_capacity}
use Rattle.dl_history.specs.Pass.{new_traces}
use Rattle.dl_loader.proofs.loader.deal.Given as goal

abbrev pub invariant-loop-caller : goal.invariant-loop-caller
invariant-loop-caller g l = record {
  parts : l.all.parts + l.caller ≡ l.callers;
  amount : l.all.amount ≡ 0;
  traces : map (λ p. p.trace) l.passes.items ≡ new_traces 0 l.caller;
  count : length l.passes.items ≡ l.caller;
  room : l.callers ≤ vec_capacity l.passes;
}

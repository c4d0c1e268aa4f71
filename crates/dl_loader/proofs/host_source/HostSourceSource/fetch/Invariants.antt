-- Each of the keys so far has its mark.
use Rattle.std.proofs.Common.{◌≡◌, ◌≤◌, length, take, map, vec_capacity}
use Rattle.dl_loader.specs.HostSource.{mark}
use Rattle.dl_loader.proofs.host_source.HostSourceSource.fetch.Given as goal

abbrev pub invariant-loop : goal.invariant-loop
invariant-loop l = (l.outcomes.items ≡ map (λ key. mark) (take l.index l.keys)) × (length l.keys ≤ vec_capacity l.outcomes)

-- Each of the keys so far has its outcome.
use Rattle.std.proofs.Common.{◌≡◌, take, map}
use Rattle.example_own_source.specs.Domains.{outcome_of}
use Rattle.example_own_source.proofs.domains.DomainsSource.fetch.Given as goal

abbrev pub invariant-loop-key : goal.invariant-loop-key
invariant-loop-key l = l.outcomes.items ≡ map (λ key. outcome_of key.id) (take l.key-index l.keys)

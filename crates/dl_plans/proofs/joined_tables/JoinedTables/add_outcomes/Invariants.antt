-- None of the keys so far breaks, and the outcome of each was added.
use Rattle.std.proofs.Common.{◌≡◌, ◌++◌, take, drop}
use Rattle.dl_source.specs.Answer.{first_break, outcomes_of}
use Rattle.dl_plans.proofs.joined_tables.JoinedTables.add_outcomes.Given as goal

abbrev pub invariant-loop-key : goal.invariant-loop-key
invariant-loop-key l = record {
  unbroken : first_break l.self (drop l.key-index l.keys) ≡ first_break l.self l.keys;
  added : l.outcomes.items ≡ l.initial.outcomes.items ++ outcomes_of l.self (take l.key-index l.keys);
}

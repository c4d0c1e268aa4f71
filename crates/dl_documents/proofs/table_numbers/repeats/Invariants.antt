-- The names so far, each once.
use Rattle.std.proofs.Common.{◌≡◌, map, take, drop}
use Rattle.dl_values.specs.TableLimits.{repeats}
use Rattle.dl_values.proofs.Repeats.{clashes}
use Rattle.dl_documents.specs.TableNumbers.{named}
use Rattle.dl_documents.proofs.table_numbers.repeats.Given as goal

abbrev pub invariant-loop-number : goal.invariant-loop-number
invariant-loop-number l =
    let tables = named l.numbers in
    record {
      seen : map (λ n. n.now) l.names.keys ≡ map (λ t. t.0) (take l.number-index tables);
      rest : clashes (take l.number-index tables) (drop l.number-index tables) ≡ repeats tables;
    }

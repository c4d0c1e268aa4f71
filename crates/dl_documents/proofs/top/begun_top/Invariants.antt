-- The members that were read go before the rest, which follows as the grammar has it.
use Rattle.std.proofs.Common.{◌≡◌, ℕ, ◌≤◌, length}
use Rattle.json.specs.Json.{members, value}
use Rattle.serde_json.specs.Data.{no_members}
use Rattle.serde_json.specs.Read.{of_members, converted}
use Rattle.dl_documents.specs.Inside.Top.{top_members, IsApart}
use Rattle.dl_documents.proofs.top.begun_top.Given as goal

abbrev pub invariant-loop-top : goal.invariant-loop-top
invariant-loop-top l = record {
  turns : ℕ;
  enough : length l.reader ≤ turns;
  read : converted (λ ms. of_members ms no_members) (members (value 126) (length l.fn.reader) l.fn.reader)
      ≡ converted (λ ms. of_members ms (top_members l.top)) (members (value 126) turns l.reader);
  apart : IsApart l.top;
}

abbrev pub decreases-loop-top : goal.decreases-loop-top
decreases-loop-top l = length l.reader

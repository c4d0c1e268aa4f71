-- The names and values so far, before those of the rest, are those of all members.
use Rattle.std.proofs.Common.{◌≡◌, ◌++◌, map}
use Rattle.dl_documents.proofs.member.in_order.Given as goal

abbrev pub invariant-loop-member : goal.invariant-loop-member
invariant-loop-member l = record {
  names : l.names.items ++ map (λ e. e.0) l.member-iterator ≡ map (λ e. e.0) l.initial.member-iterator;
  values : l.values.items ++ map (λ e. e.1) l.member-iterator ≡ map (λ e. e.1) l.initial.member-iterator;
}

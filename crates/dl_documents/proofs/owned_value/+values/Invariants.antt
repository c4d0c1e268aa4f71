-- What was read goes before the rest, which follows as the grammar has it.
use Rattle.std.proofs.Common.{◌≡◌, ℕ, ◌+◌, ◌*◌, ◌≤◌, length}
use Rattle.json.specs.Json.{items, members, value, parse_map}
use Rattle.serde_json.specs.Data.{no_members}
use Rattle.serde_json.specs.Read.{of_items, of_members, converted}
use Rattle.serde_json.specs.View.{items_view, members_view}
use Rattle.dl_documents.proofs.TreeData.{items_after}
use Rattle.dl_documents.proofs.owned_value.+values.Given as goal

abbrev pub decreases-begun_value : goal.decreases-begun_value
decreases-begun_value l = 3 * l.depth

abbrev pub decreases-read_value : goal.decreases-read_value
decreases-read_value l = 3 * l.depth + 1

abbrev pub decreases-read_items : goal.decreases-read_items
decreases-read_items l = 3 * l.depth + 2

abbrev pub decreases-read_members : goal.decreases-read_members
decreases-read_members l = 3 * l.depth + 2

abbrev pub invariant-read_items-loop-alloc : goal.invariant-read_items-loop-alloc
invariant-read_items-loop-alloc l = record {
  turns : ℕ;
  enough : length l.reader ≤ turns;
  read : converted of_items (items (value l.depth) (length l.initial.reader) l.initial.reader)
      ≡ parse_map (items_after (items_view l.found.items)) (converted of_items (items (value l.depth) turns l.reader));
  within : length l.reader ≤ length l.initial.reader;
}

abbrev pub decreases-read_items-loop-alloc : goal.decreases-read_items-loop-alloc
decreases-read_items-loop-alloc l = length l.reader

abbrev pub invariant-read_members-loop-found : goal.invariant-read_members-loop-found
invariant-read_members-loop-found l = record {
  turns : ℕ;
  enough : length l.reader ≤ turns;
  read : converted (λ ms. of_members ms no_members) (members (value l.depth) (length l.initial.reader) l.initial.reader)
      ≡ converted (λ ms. of_members ms (members_view l.found.entries)) (members (value l.depth) turns l.reader);
  within : length l.reader ≤ length l.initial.reader;
}

abbrev pub decreases-read_members-loop-found : goal.decreases-read_members-loop-found
decreases-read_members-loop-found l = length l.reader

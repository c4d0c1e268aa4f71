-- The fields of a pass.
use Rattle.std.specs.Prelude.{vec_capacity}
use Rattle.dl_history.specs.Pass.{PassFields}
use Rattle.dl_history.specs.declared.pass.Pass.TheInside.{Inside}

-- with the room of its lists, and what its share of the ledger has
abbrev pub fields_of : {L : Type 0} → Inside L → PassFields
fields_of p = record {
  caller = p.caller;
  entries = p.entries.items;
  entry_room = vec_capacity p.entries;
  calls = p.calls;
  front = p.front;
  tickets = p.tickets.items;
  ticket_room = vec_capacity p.tickets;
  unseen = p.unseen;
  spare = p.spare;
  parts = p.share.parts;
  counted = p.share.amount;
  flags = p.flags;
}

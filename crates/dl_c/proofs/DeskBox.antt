-- A place with a desk, and the parts of its box, own what a box of the desk owns.
use mir.Syntax.{impl, tnil, dnil}
use mathlib.Core.List.{[]}
use denote.Signature.{Slot, plain}
use Rattle.std.proofs.BoxSteps.Form.{Bx}
use Rattle.std.specs.contracts.alloc.Global as Heap
use Rattle.std.specs.contracts.impls.GlobalAllocator.TheImpl.{ghosts, dict}
use Rattle.std.proofs.alloc.Global.TheLaws as heap
use Rattle.std.specs.Prelude.{None}
use Rattle.dl_values.specs.Limits.{Rules}
use Rattle.dl_desk.specs.BatchBook as Book
use Rattle.dl_c.specs.declared.kept_desk.KeptDesk.{KeptDesk}
use Rattle.dl_c.specs.contracts.kept_desk.KeptDesk as Kept
use Rattle.dl_c.proofs.kept_desk.KeptDesk.TheLaws as kept
use Rattle.dl_c_values.specs.contracts.box_parts.BoxParts as Parts
use Rattle.dl_c.specs.contracts.handle.Held as Held

abbrev pub E : Bx
E = record {
  row = Kept.the_row;
  laws = kept.the_row_laws;
  al = record {
    row = Heap.the_row;
    laws = heap.the_row_laws;
    g = ghosts;
    d = dict;
    drops =
        impl [] tnil dnil;
  };
}

abbrev pub FromParts : Slot 0
FromParts = plain (λ _. Parts.the_row Kept.the_row Heap.the_row ghosts)

abbrev pub FromHeld : Slot 0
FromHeld = plain (λ _. Held.the_row)

abbrev pub FromHeap : Slot 0
FromHeap = plain (λ _. Heap.the_row)

abbrev no_rules : Rules
no_rules = record { limits = record { max_batch = 0; max_cells = 0; max_calls = 0 }; tables = None }

abbrev no_book : Book.BatchBook
no_book = record { rules = no_rules; cells = 0; sent = 0; memo = []; batches = [] }

abbrev no_desk : Book.Desk
no_desk = record { book = no_book; prepared = no_book }

-- what a place with no desk notes of one, of which nothing is told
abbrev pub none_kept : KeptDesk
none_kept = record { desk = no_desk; spare = None }

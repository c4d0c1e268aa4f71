-- A place with what is kept, and the parts of its box, own what a box of it owns.
use mathlib.Core.Path.{◌≡◌}
use mir.Syntax.{impl, tnil, dnil}
use mathlib.Core.List.{[]}
use denote.RattleType.{RattleType}
use denote.Param.Laws.{Laws}
use denote.Signature.{Slot, plain}
use Rattle.std.proofs.BoxSteps.Form.{Bx}
use Rattle.std.specs.contracts.alloc.Global as Heap
use Rattle.std.specs.contracts.impls.GlobalAllocator.TheImpl.{ghosts, dict}
use Rattle.std.proofs.alloc.Global.TheLaws as heap
use Rattle.dl_history.specs.declared.name.LoaderName as name
use Rattle.std.specs.declared.sync.ledger.Ledger as ledger
use Rattle.std.proofs.marker.Brand.TheLaws as Brand
use Rattle.dl_loader_c.specs.Named.{Named, no_loader, IsHosted, named_by, name_ghosts, ledger_ghosts}
use Rattle.dl_loader_c.specs.Ownership.{brand}
use Rattle.dl_loader_c.specs.contracts.handle.Held as Held
use Rattle.dl_loader_c.specs.contracts.handle.HeldOf as HeldOf
use Rattle.dl_loader_c.specs.contracts.kept.Kept as Kept
use Rattle.dl_loader_c.proofs.kept.Kept.TheLaws as kept

module _ (T : RattleType) (LT : Laws T) (n : name.Ghosts T.Denot) (l : ledger.Ghosts T.Denot) where
  abbrev pub E : Bx
  E = record {
    row = Kept.the_row T n l;
    laws = kept.the_row_laws T n l LT;
    al = record {
      row = Heap.the_row;
      laws = heap.the_row_laws;
      g = ghosts;
      d = dict;
      drops =
          impl [] tnil dnil;
    };
  }

module _ {D : Type 0} (n : name.Ghosts D) (l : ledger.Ghosts D) (hosted : IsHosted n.service l.parts) where
  -- the members of a type that stands for a loader are those of its name
  pub names_are : n ≡ name_ghosts D (named_by n.cells n.service l.name)
  names_are = λ i. record { cells = n.cells; service = record { rules = n.service.rules; callers = n.service.callers; answer = hosted.answers i } }

  pub ledgers_are : l ≡ ledger_ghosts D (named_by n.cells n.service l.name)
  ledgers_are = λ i. record { name = l.name; parts = hosted.parts_are i }

-- what is kept of a loader at the marker type
abbrev pub at_brand : Named → Bx
at_brand m = E brand Brand.the_row_laws (name_ghosts brand.Denot m) (ledger_ghosts brand.Denot m)

abbrev pub B0 : Bx
B0 = at_brand no_loader

abbrev pub FromHeldOf : Slot 0
FromHeldOf = plain (λ _. HeldOf.the_row brand)

abbrev pub FromHeld : Slot 0
FromHeld = plain (λ _. Held.the_row)

abbrev pub FromHeap : Slot 0
FromHeap = plain (λ _. Heap.the_row)

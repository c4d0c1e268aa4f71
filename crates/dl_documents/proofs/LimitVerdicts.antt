-- The verdicts on limits, of either kind of document.
use Rattle.std.proofs.Common.{◌≡◌, inl, inr, ℕ, ◌<◌, ℤ, pos, List, codes, Some, refl, sym, ap, ◌∙◌, arith}
use Rattle.std.proofs.lemmas.Option.{same_Some}
use Rattle.std.specs.List.{slice_get}
use Rattle.serde_json.specs.Data.{Data}
use Rattle.dl_values.specs.Limits.{Limits}
use Rattle.dl_values.specs.declared.fault.LimitFault.{LimitFault}
use Rattle.dl_values.specs.declared.fault.LimitFault.TheVariants.{BatchLimit, CellLimit, CallLimit}
use Rattle.dl_source.specs.declared.table_number.TableNumber.{TableNumber}
use Rattle.dl_documents.specs.Document.{GivesLimits, number_at}
use Rattle.dl_documents.specs.Faults.{limit_name, limit_number, IsBadLimit, GivesNumbers, HasOutside, IsBadNumber, AtTop, OfTable}
use Rattle.dl_documents.specs.Faults.{Causes, number, place, IsEarlier, IsLeast}
use Rattle.dl_documents.specs.Inside.OwnLimits.{AreInside, IsRefusedNumber, TableOutside, TopOutside}
use Rattle.dl_documents.specs.Numbers.{AreGiven, AreLimitsOf, IsInside, IsFirstOutside}
use Rattle.dl_documents.specs.declared.fault.PlanFault.{PlanFault}
use Rattle.dl_documents.specs.declared.fault.PlanFault.TheVariants.{Limit}
use Rattle.dl_documents.specs.declared.limits.Numbers.{Numbers}
use Rattle.dl_documents.proofs.ListSpelling.{all_at}
use Rattle.dl_documents.proofs.Order.{Clear, clear_limits, least_of}
use Rattle.dl_documents.proofs.OwnNumbers.{GivesOnly}

inside : (name : List ℕ) (d : Data) (z : ℤ) → number_at name d ≡ Some z → IsInside z → IsBadLimit name d → ⊥
inside name d z e is bad =
    let same : bad.given ≡ z = same_Some bad.given z (sym bad.number ∙ e) in
    bad.outside is.0 is.2 (same ∙ is.1)

-- ---- limits

outside_applies : (d : Data) (n : Numbers) (l : LimitFault) → AreGiven d n → IsFirstOutside n l → IsBadLimit (limit_name l) d
outside_applies d n BatchLimit given out = record { given = n.max_batch; number = given.batch; outside = out }
outside_applies d n CellLimit given out = record { given = n.max_cells; number = given.cells; outside = out.1 }
outside_applies d n CallLimit given out = record { given = n.max_calls; number = given.calls; outside = out.2 }

-- a number that is tested before the first that is no limit is one
before_outside : (d : Data) (n : Numbers) (l m : LimitFault) → AreGiven d n → IsFirstOutside n l → limit_number m < limit_number l
    → IsBadLimit (limit_name m) d → ⊥
before_outside d n CellLimit BatchLimit given out less bad = inside (codes "maxBatchSize") d n.max_batch given.batch out.0 bad
before_outside d n CallLimit BatchLimit given out less bad = inside (codes "maxBatchSize") d n.max_batch given.batch out.0 bad
before_outside d n CallLimit CellLimit given out less bad = inside (codes "maxCells") d n.max_cells given.cells out.1 bad
before_outside d n BatchLimit BatchLimit given out less bad = omega arith
before_outside d n BatchLimit CellLimit given out less bad = omega arith
before_outside d n BatchLimit CallLimit given out less bad = omega arith
before_outside d n CellLimit CellLimit given out less bad = omega arith
before_outside d n CellLimit CallLimit given out less bad = omega arith
before_outside d n CallLimit CallLimit given out less bad = omega arith

-- where each number is a limit no other that the document gives tables is none
none_outside : (d : Data) (ns ms : List TableNumber) → GivesOnly d ns → AreInside ns → GivesNumbers d ms → HasOutside ms → ⊥
none_outside d ns ms only all gives out =
    let there : slice_get ns out.0 ≡ Some out.1 = ap (λ (ts : List TableNumber). slice_get ts out.0) (sym (only ms gives)) ∙ out.2 in
    let is : IsInside out.1.number = all_at (λ (n : TableNumber). IsInside n.number) ns out.0 out.1 all there in
    out.3 is.0 is.2 is.1

module _ (d : Data) (n : Numbers) (ns : List TableNumber) (low : Clear d 10) (given : AreGiven d n) where
  earlier_limit : (l : LimitFault) → GivesOnly d ns → AreInside ns → IsFirstOutside n l
      → (g : PlanFault) → number g ≡ 10 → IsEarlier (place g) (limit_number l, 0) → Causes d g → ⊥
  earlier_limit l only all out (Limit m) same (inl less) (AtTop bad) = before_outside d n l m given out less bad
  earlier_limit l only all out (Limit m) same (inl less) (OfTable is ms gives bad) = none_outside d ns ms only all gives bad
  earlier_limit l only all out (Limit m) same (inr more) h = let k : 0 < 0 = more.1 in omega arith
  earlier_limit l only all out g same early h = omega arith

  -- nothing comes before the limit of batches
  first_limit : (g : PlanFault) → number g ≡ 10 → IsEarlier (place g) (1, 0) → Causes d g → ⊥
  first_limit (Limit BatchLimit) same (inl less) h = omega arith
  first_limit (Limit CellLimit) same (inl less) h = omega arith
  first_limit (Limit CallLimit) same (inl less) h = omega arith
  first_limit (Limit m) same (inr more) h = let k : 0 < 0 = more.1 in omega arith
  first_limit g same early h = omega arith

  -- the first number that is no limit is the refusal, where nothing before is one
  pub least_limit : GivesNumbers d ns → GivesOnly d ns → (f : PlanFault) → IsRefusedNumber n ns f → IsLeast (Causes d) f
  least_limit gives only f (TableOutside is out) = rw is (least_of d (Limit BatchLimit) (OfTable refl ns gives out) low first_limit)
  least_limit gives only f (TopOutside l is all out) =
      rw is (least_of d (Limit l) (AtTop (outside_applies d n l given out)) low (earlier_limit l only all out))

-- ---- the limits that are given

pub gives_limits : (d : Data) (n : Numbers) (l : Limits) → AreGiven d n → AreLimitsOf n l → GivesLimits d l
gives_limits d n l given are = record {
  batch = record { number = rw (← are.batch) given.batch; limit = are.limits.batch };
  cells = record { number = rw (← are.cells) given.cells; limit = are.limits.cells };
  calls = record { number = rw (← are.calls) given.calls; limit = are.limits.calls };
}

-- the numbers of limits
abbrev pub numbers_of : Limits → Numbers
numbers_of l = record { max_batch = pos l.max_batch; max_cells = pos l.max_cells; max_calls = pos l.max_calls }

pub are_given : (d : Data) (l : Limits) → GivesLimits d l → AreGiven d (numbers_of l)
are_given d l gives = record { batch = gives.batch.number; cells = gives.cells.number; calls = gives.calls.number }

given_inside : (d : Data) (l : Limits) → GivesLimits d l → (m : LimitFault) → IsBadLimit (limit_name m) d → ⊥
given_inside d l gives BatchLimit bad = inside (codes "maxBatchSize") d (pos l.max_batch) gives.batch.number (l.max_batch, refl, gives.batch.limit) bad
given_inside d l gives CellLimit bad = inside (codes "maxCells") d (pos l.max_cells) gives.cells.number (l.max_cells, refl, gives.cells.limit) bad
given_inside d l gives CallLimit bad = inside (codes "maxCalls") d (pos l.max_calls) gives.calls.number (l.max_calls, refl, gives.calls.limit) bad

pub clear_given : (d : Data) (l : Limits) (ns : List TableNumber) → GivesLimits d l → GivesOnly d ns → AreInside ns → Clear d 10 → Clear d 11
clear_given d l ns gives only all low = clear_limits d low none
  where
    none : (m : LimitFault) → IsBadNumber d m → ⊥
    none m (AtTop bad) = given_inside d l gives m bad
    none m (OfTable is ms other out) = none_outside d ns ms only all other out

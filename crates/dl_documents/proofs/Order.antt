-- Which refusal comes first: below which number a document gives no cause.
use Rattle.std.proofs.Common.{◌≡◌, inl, inr, ℕ, ◌<◌, ◌≤◌, arith}
use Rattle.serde_json.specs.Data.{Data}
use Rattle.dl_values.specs.declared.fault.LimitFault.{LimitFault}
use Rattle.dl_source.specs.declared.fault.TableFault.{TableFault}
use Rattle.dl_documents.specs.Document.{IsOfVersion, IsOfNoVersion}
use Rattle.dl_documents.specs.Faults.{IsBadTop, IsBadCall, IsBadStep, IsDeepStep, IsLongPlan, IsBadTable, IsBadNumber, Causes}
use Rattle.dl_documents.specs.Faults.{number, place, IsEarlier, IsLeast}
use Rattle.dl_documents.specs.declared.head.Version.{Version}
use Rattle.dl_documents.specs.declared.fault.PlanFault.{PlanFault}
use Rattle.dl_documents.specs.declared.fault.PlanFault.TheVariants as fault
use Rattle.dl_documents.specs.declared.fault.PlanFault.TheVariants.{TooLarge, NotJson, Top, BadCall}
use Rattle.dl_documents.specs.declared.fault.PlanFault.TheVariants.{Shape, TooDeep, TooManySteps, Table, Limit, OutOfMemory}

-- each cause has at least this number
abbrev pub Clear : Data → ℕ → Type 0
Clear d k = (f : PlanFault) → Causes d f → k ≤ number f

-- ---- one test more that was passed

module _ (d : Data) where
  pub clear_bytes : Clear d 3
  clear_bytes TooLarge h = absurd h
  clear_bytes NotJson h = absurd h
  clear_bytes OutOfMemory h = absurd h
  clear_bytes f h = omega arith

  pub clear_version : (v : Version) → IsOfVersion d v → Clear d 4
  clear_version v is fault.Version h = absurd (h v is)
  clear_version v is f h = let k = clear_bytes f h in omega arith

  pub clear_top : Clear d 4 → (IsBadTop d → ⊥) → Clear d 5
  clear_top low none Top h = absurd (none h)
  clear_top low none f h = let k = low f h in omega arith

  pub clear_calls : Clear d 5 → ((n : ℕ) → IsBadCall d n → ⊥) → Clear d 6
  clear_calls low none (BadCall n) h = absurd (none n h)
  clear_calls low none f h = let k = low f h in omega arith

  pub clear_steps : Clear d 6 → ((n s : ℕ) → IsBadStep d n s → ⊥) → Clear d 7
  clear_steps low none (Shape n s) h = absurd (none n s h)
  clear_steps low none f h = let k = low f h in omega arith

  pub clear_heights : Clear d 7 → ((n s : ℕ) → IsDeepStep d n s → ⊥) → Clear d 8
  clear_heights low none (TooDeep n s) h = absurd (none n s h)
  clear_heights low none f h = let k = low f h in omega arith

  pub clear_counts : Clear d 8 → ((n : ℕ) → IsLongPlan d n → ⊥) → Clear d 9
  clear_counts low none (TooManySteps n) h = absurd (none n h)
  clear_counts low none f h = let k = low f h in omega arith

  pub clear_tables : Clear d 9 → ((t : TableFault) → IsBadTable d t → ⊥) → Clear d 10
  clear_tables low none (Table t) h = absurd (none t h)
  clear_tables low none f h = let k = low f h in omega arith

  pub clear_limits : Clear d 10 → ((l : LimitFault) → IsBadNumber d l → ⊥) → Clear d 11
  clear_limits low none (Limit l) h = absurd (none l h)
  clear_limits low none f h = let k = low f h in omega arith

  -- all tests were passed
  pub no_cause : Clear d 11 → (f : PlanFault) → Causes d f → ⊥
  no_cause low OutOfMemory h = h
  no_cause low f h = let k = low f h in omega arith

  -- ---- the first cause

  -- a cause, when none has a lesser number, nor the same and an earlier place
  pub least_of : (f : PlanFault) → Causes d f → Clear d (number f)
      → ((g : PlanFault) → number g ≡ number f → IsEarlier (place g) (place f) → Causes d g → ⊥) → IsLeast (Causes d) f
  least_of f h low earlier = record {
    applies = h;
    first = λ g c before. elim before [ inl less ↦ (let k = low g c in omega arith) | inr same ↦ earlier g same.0 same.1 c ];
  }

not_earlier : (p : ℕ × ℕ) → IsEarlier p (0, 0) → ⊥
not_earlier p (inl h) = omega arith
not_earlier p (inr h) = let k : p.1 < 0 = h.1 in omega arith

pub least_version : (d : Data) → IsOfNoVersion d → IsLeast (Causes d) fault.Version
least_version d h = least_of d fault.Version h (clear_bytes d) (λ g same early c. not_earlier (place g) early)

pub least_top : (d : Data) (v : Version) → IsOfVersion d v → IsBadTop d → IsLeast (Causes d) Top
least_top d v is h = least_of d Top h (clear_version d v is) (λ g same early c. not_earlier (place g) early)

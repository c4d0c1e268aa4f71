-- From the verdict on a document's tree to that on its bytes.
use Rattle.std.proofs.Common.{◌≡◌, ◌⊎◌, inl, inr, ℕ, ◌≤◌, List, length, sym, ◌∙◌, arith}
use Rattle.std.proofs.lemmas.Option.{same_Some}
use Rattle.serde_json.specs.Data.{Data}
use Rattle.dl_documents.specs.Document.{IsTextOf, Spells}
use Rattle.dl_documents.specs.Faults.{Causes, CausesIn, AppliesTo, IsLeast, most_bytes}
use Rattle.dl_documents.specs.Inside.Results.{RefusedFor}
use Rattle.dl_documents.specs.declared.fault.PlanFault.{PlanFault}
use Rattle.dl_documents.specs.declared.fault.PlanFault.TheVariants.{TooLarge, NotJson, OutOfMemory}
use Rattle.dl_documents.specs.declared.input.Input.{Input}
use Rattle.dl_documents.specs.declared.input.Input.TheVariants as input
use Rattle.dl_documents.proofs.ScriptVerdicts.{script_passes}
use Rattle.dl_documents.proofs.PlanSpelling.{plans_pass}

one_tree : (bytes : List ℕ) (d e : Data) → IsTextOf bytes d → IsTextOf bytes e → d ≡ e
one_tree bytes d e a b = same_Some d e (sym a.read ∙ b.read)

module _ (reading : Data → Data) (bytes : List ℕ) (d : Data) where
  -- a cause in the tree applies to its bytes
  applies : (f : PlanFault) → IsTextOf bytes d → Causes (reading d) f → AppliesTo reading bytes f
  applies TooLarge text h = absurd h
  applies NotJson text h = absurd h
  applies OutOfMemory text h = absurd h
  applies f text h = record { tree = d; text = text; cause = h }

  cause : (f : PlanFault) → IsTextOf bytes d → CausesIn reading bytes f → Causes (reading d) f
  cause f text h = rw (one_tree bytes d h.tree text h.text) h.cause

  -- what applies to the bytes of a tree that aren't too many is a cause in the tree
  cause_of : (f : PlanFault) → length bytes ≤ most_bytes → IsTextOf bytes d → AppliesTo reading bytes f → Causes (reading d) f
  cause_of TooLarge few text h = omega arith
  cause_of NotJson few text h = h d text
  cause_of OutOfMemory few text h = h
  cause_of f few text h = cause f text h

  -- the first refusal of the tree is that of the bytes
  pub least_in : (f : PlanFault) → length bytes ≤ most_bytes → IsTextOf bytes d → IsLeast (Causes (reading d)) f → IsLeast (AppliesTo reading bytes) f
  least_in f few text least = record {
    applies = applies f text least.applies;
    first = λ g h before. least.first g (cause_of g few text h) before;
  }

  pub refused_in : (f : PlanFault) → length bytes ≤ most_bytes → IsTextOf bytes d → RefusedFor (reading d) f
      → (f ≡ OutOfMemory) ⊎ IsLeast (AppliesTo reading bytes) f
  refused_in f few text (inl memory) = inl memory
  refused_in f few text (inr least) = inr (least_in f few text least)

-- ---- nothing is refused that was read

tree_passes : (d : Data) (i : Input) → Spells d i → (f : PlanFault) → Causes d f → ⊥
tree_passes d (input.Script s) spells f h = script_passes d s spells f h
tree_passes d (input.Plans file) spells f h = plans_pass d file spells f h

-- nothing applies to the bytes, not too many, of what was read
pub passes : (reading : Data → Data) (bytes : List ℕ) (d : Data) (i : Input) → length bytes ≤ most_bytes → IsTextOf bytes d → Spells (reading d) i
    → (f : PlanFault) → AppliesTo reading bytes f → ⊥
passes reading bytes d i few text spells f h = tree_passes (reading d) i spells f (cause_of reading bytes d f few text h)

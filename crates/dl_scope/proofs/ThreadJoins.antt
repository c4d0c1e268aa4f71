-- What threads gave back, with what one more of them did.
use Rattle.std.specs.Prelude.{◌≡◌, List, [], ◌∷◌, ◌++◌, Result, Ok, Err, IfOk, IsOkAnd}
use Rattle.std.specs.List.{AllZip}
use Rattle.std.proofs.Common.{sym, subst}
use Rattle.std.proofs.lemmas.Slice.Zip.{all_zipped_more}

-- the relation holds of all tasks and runs, where it holds of the others and of one more
pub all_joined : {A B C E : Type 0} (K : A → B → Type 0) (of : C → List B) (rest all : Result C E) (tasks : List A) (task : A) (run : B)
    → IfOk rest (λ r. AllZip K tasks (of r)) → K task run → IfOk all (λ a. IsOkAnd rest (λ r. of a ≡ of r ++ run ∷ []))
    → IfOk all (λ a. AllZip K (tasks ++ task ∷ []) (of a))
all_joined K of (Ok r) (Ok a) tasks task run kept one e = subst (AllZip K (tasks ++ task ∷ [])) (sym e) (all_zipped_more K tasks (of r) task run kept one)
all_joined K of (Err _) (Ok a) tasks task run kept one e = absurd e
all_joined K of rest (Err _) tasks task run kept one e = tt

-- what doesn't change stays as it was
pub others_stay : {C D E : Type 0} (P : D → Type 0) (of : C → D) (rest all : Result C E) → IfOk rest (λ r. P (of r))
    → IfOk all (λ a. IsOkAnd rest (λ r. of a ≡ of r)) → IfOk all (λ a. P (of a))
others_stay P of (Ok r) (Ok a) kept e = subst P (sym e) kept
others_stay P of (Err _) (Ok a) kept e = absurd e
others_stay P of rest (Err _) kept e = tt

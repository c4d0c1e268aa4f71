-- Where what was made of an answer that may be missing came from.
use Rattle.std.proofs.Common.{◌≡◌, refl, sym, List, ◌∷◌, Option, Some, None}
use Rattle.std.specs.Option.{option_map, option_and_then}
use Rattle.dl_terms.specs.TermAnswers.{both}

pub some_same : {A : Type 0} (a b : A) → Some a ≡ Some b → a ≡ b
some_same {A} a b e = let same : ◌≡◌ {A = Option A} (Some a) (Some b) = e in cc

pub none_absurd : {A : Type 0} (a : A) → ◌≡◌ {A = Option A} None (Some a) → ⊥
none_absurd {A} a e = let bad : ◌≡◌ {A = Option A} None (Some a) = e in cc

pub from_map : {A B : Type 0} (f : A → B) (x : Option A) (b : B) → option_map f x ≡ Some b → (a : A) × (x ≡ Some a) × (b ≡ f a)
from_map f None b e = absurd (none_absurd b e)
from_map f (Some a) b e = (a, refl, some_same b (f a) (sym e))

pub from_and_then : {A B : Type 0} (f : A → Option B) (x : Option A) (b : B) → option_and_then f x ≡ Some b → (a : A) × (x ≡ Some a) × (f a ≡ Some b)
from_and_then f None b e = absurd (none_absurd b e)
from_and_then f (Some a) b e = (a, refl, e)

pub from_both : {A : Type 0} (x : Option A) (xs : Option (List A)) (ls : List A) → both x xs ≡ Some ls
    → (a : A) × (rest : List A) × (x ≡ Some a) × (xs ≡ Some rest) × (ls ≡ a ∷ rest)
from_both None xs ls e = absurd (none_absurd ls e)
from_both (Some a) xs ls e = let f = from_map (λ l. a ∷ l) xs ls e in (a, f.0, refl, f.1, f.2)

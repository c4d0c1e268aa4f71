-- Lists whose elements are made, dealt out and put together one after another.
use Rattle.std.proofs.Common.{◌≡◌, ◌∙◌, ap, sym, List, [], ◌∷◌, ◌++◌, map, append_assoc}
use Rattle.std.specs.Prelude.{All}
use Rattle.std.specs.List.{AllByRecursion}
use Rattle.std.proofs.lemmas.List.{map-append}
use Rattle.std.proofs.lemmas.List.Elements.{All-from_recursion, recursion_from_All, All-same}

unmapped : {X Y : Type 0} (P : Y → Type 0) (f : X → Y) (xs : List X) → AllByRecursion P (map f xs) → AllByRecursion (λ x. P (f x)) xs
unmapped P f [] all = tt
unmapped P f (x ∷ xs) (one, others) = (one, unmapped P f xs others)

-- what holds of each of a list's images
pub All-from_map : {X Y : Type 0} (P : Y → Type 0) (f : X → Y) (xs : List X) (ys : List Y) → map f xs ≡ ys → All P ys → All (λ x. P (f x)) xs
All-from_map P f xs ys is all = All-from_recursion (λ x. P (f x)) xs (unmapped P f xs (recursion_from_All P (map f xs) (All-same P (map f xs) ys is all)))

-- the images of a list that one element was taken off, and another put on
pub map-pushed : {X Y : Type 0} (f : X → Y) (tasks all : List X) (task : X) (front items : List Y)
    → all ≡ tasks ++ task ∷ [] → map f tasks ≡ front → items ≡ front ++ f task ∷ [] → map f all ≡ items
map-pushed f tasks all task front items pushed before popped = rw (pushed, map-append f tasks (task ∷ []), before) (sym popped)

-- one more of a list's images is put behind what there is
pub map-append_push : {X Y : Type 0} (f : X → Y) (before now new : List Y) (xs : List X) (x : X) → now ≡ before ++ map f xs → new ≡ now ++ f x ∷ []
    → new ≡ before ++ map f (xs ++ x ∷ [])
map-append_push f before now new xs x is push =
    push ∙ (ap (λ ys. ys ++ f x ∷ []) is ∙ (append_assoc before (map f xs) (f x ∷ []) ∙ ap (λ ys. before ++ ys) (sym (map-append f xs (x ∷ [])))))

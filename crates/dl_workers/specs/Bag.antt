-- When two lists have the same elements, each as often.
use Rattle.std.specs.Prelude.{◌≡◌, Bool, List, count_by}

-- each element is in both lists as often: whatever you ask of elements, as many of both answer yes
abbrev pub EachAsOften : {X : Type 0} → List X → List X → Type 0
EachAsOften {X} xs ys = (test : X → Bool) → count_by test xs ≡ count_by test ys

-- The values of a list or an object are less deep than it.
use Rattle.std.specs.Prelude.{◌≡◌, ℕ, ◌+◌, ◌≤◌, max, List, [], ◌∷◌, length, true, ◌&&◌, nat_eq}
use Rattle.std.proofs.Common.{◌∙◌, ap, refl, arith, Ordering, Less, Equal, Greater, true≢false, sym, eqb-true}
use Rattle.std.proofs.lemmas.Bool.{and_parts}
use Rattle.std.specs.Ordering.{nat_cmp, is_lt, match_ordering}
use Rattle.std.specs.Cmp.Lexicographic.{slice_cmp}
use denote.Param.Weighed.{most}
use Rattle.serde_json.specs.Data.{Data, depth, items_depth, Members, member, members_depth, put}
use Rattle.serde_json.specs.View.{items_of}
use Rattle.dl_terms.specs.declared.answer_value.Shape.{Shape}
use Rattle.dl_terms.specs.declared.answer_value.Shape.TheVariants.{Row, List as ListOf, Object}
use Rattle.dl_terms.specs.declared.answer_value.AnswerValue.TheDeep.{deep-Shape}
use Rattle.dl_terms.specs.AnswerValue.{tree_of, is_in_form}
use Rattle.dl_terms.specs.Joined.{members_with}
use Rattle.dl_terms.specs.Named.{is_less, ascend_from, are_ascending, zipped}

items_below : (ds : List Data) → most (λ d. depth d + 1) ds ≤ items_depth (items_of ds) + 1
items_below [] = omega arith
items_below (d ∷ ds) = omega (arith, items_below ds)

zipped_below : (names : List (List ℕ)) (ds : List Data) → length names ≡ length ds
    → most (λ d. depth d + 1) ds ≤ members_depth (zipped names ds) + 1
zipped_below [] [] long = omega arith
zipped_below [] (d ∷ ds) long = absurd (omega arith)
zipped_below (n ∷ names) [] long = absurd (omega arith)
zipped_below (n ∷ names) (d ∷ ds) long = omega (arith, zipped_below names ds (omega arith))

-- a name that is less than the first goes before it
first_put : (o : Ordering) (a b c : Members) → is_lt o ≡ true → match_ordering o a b c ≡ a
first_put Less a b c less = refl
first_put Equal a b c less = absurd (true≢false (sym less))
first_put Greater a b c less = absurd (true≢false (sym less))

put_before : (m : List ℕ) (d : Data) (names : List (List ℕ)) (ds : List Data) → ascend_from m names ≡ true
    → put m d (zipped names ds) ≡ member m d (zipped names ds)
put_before m d [] ds up = refl
put_before m d (n ∷ names) [] up = refl
put_before m d (n ∷ names) (e ∷ ds) up =
    first_put (slice_cmp nat_cmp m n) (member m d (member n e (zipped names ds))) (member n d (zipped names ds)) (member n e (put m d (zipped names ds)))
    (and_parts (is_less m n) (ascend_from n names) up).0

rest_ascends : (n : List ℕ) (names : List (List ℕ)) → ascend_from n names ≡ true → are_ascending names ≡ true
rest_ascends n [] up = refl
rest_ascends n (m ∷ names) up = (and_parts (is_less n m) (ascend_from m names) up).1

-- names that ascend have their values in the same places
pub members_zipped : (names : List (List ℕ)) (ds : List Data) → are_ascending names ≡ true → members_with names (items_of ds) ≡ zipped names ds
members_zipped [] ds up = refl
members_zipped (n ∷ names) [] up = refl
members_zipped (n ∷ names) (d ∷ ds) up =
    ap (put n d) (members_zipped names ds (rest_ascends n names up)) ∙ put_before n d names ds up

-- what is known of an object
pub record FitsTogether (names : List (List ℕ)) (values : List Data) : Type 0 where
  pub long : length names ≡ length values
  pub zip : members_with names (items_of values) ≡ zipped names values

pub fits_together : (names : List (List ℕ)) (values : List Data) → (are_ascending names && nat_eq (length names) (length values)) ≡ true
    → FitsTogether names values
fits_together names values form =
    let parts = and_parts (are_ascending names) (nat_eq (length names) (length values)) form in
    record { long = eqb-true _ _ parts.1; zip = members_zipped names values parts.0 }

pub parts_below : (s : Shape) → is_in_form s ≡ true → max (deep-Shape s) 0 ≤ depth (tree_of s)
parts_below (Row d) form = omega arith
parts_below (ListOf values) form = omega (arith, items_below values.items)
parts_below (Object names values) form =
    let fit = fits_together names values.items form in
    let below = zipped_below names values.items fit.long in
    let same = ap members_depth fit.zip in
    omega (arith, below, same)

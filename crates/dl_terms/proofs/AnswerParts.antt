-- What stands in a value: the members of a row, and the values of a list, one by one.
use Rattle.std.proofs.Common.{◌≡◌, ◌∙◌, ap, sym, refl, slice_get, append_assoc, ℕ, zero, suc, ◌+◌, ◌*◌, ◌<◌, ◌≤◌, Bool, true, false, List, [], ◌∷◌, ◌++◌, map, take, drop, length, get_or}
use Rattle.std.proofs.Common.{Some, arith, length-append, ◌||◌, Ordering, Less, Equal, Greater}
use Rattle.std.specs.Prelude.{Vec, max}
use Rattle.std.specs.declared.alloc.Global.{Global}
use denote.Param.Weighed.{most, w_this}
use Rattle.std.proofs.lemmas.List.{map-append, drop_more, take_more}
use Rattle.std.specs.Ordering.{nat_cmp, match_ordering}
use Rattle.std.specs.Cmp.Lexicographic.{slice_cmp}
use Rattle.std.proofs.lemmas.Bool.{or_parts}
use Rattle.serde_json.specs.Data.{Data, null, boolean, number, string, array, object, Items, no_items, item, Members, no_members, member, put, depth}
use Rattle.serde_json.specs.Find.{as_array}
use Rattle.serde_json.specs.View.{view, items_of, items_view}
use Rattle.serde_json.specs.Written.{has_float, items_have_float, members_have_float, comma_if, compact_text, items_text}
use Rattle.serde_json.specs.declared.value.Value.{Value}
use Rattle.dl_terms.specs.declared.answer_value.Shape.{Shape}
use Rattle.dl_terms.specs.declared.answer_value.Shape.TheVariants.{List as ListOf, Object}
use Rattle.dl_terms.specs.declared.answer_value.AnswerValue.{AnswerValue}
use Rattle.dl_terms.specs.declared.answer_value.AnswerValue.TheDeep.{deep-Shape, size-AnswerValue}
use Rattle.dl_terms.specs.AnswerDepth.{FitsTogether, fits_together, parts_below}
use Rattle.dl_terms.specs.AnswerValue.{is_in_form, tree_of}
use Rattle.dl_terms.specs.Joined.{members_with, put_named}
use Rattle.dl_terms.specs.Named.{zipped}
use Rattle.dl_terms.proofs.Options.{none_absurd, some_same}

-- what the measures of drops and recursions count of the values of a list is twice what their depths are
twice_deep : (ds : List Data) → most (w_this.weight AnswerValue size-AnswerValue) ds ≤ 2 * most (λ e. depth e + 1) ds
twice_deep [] = omega arith
twice_deep (d ∷ ds) = let one : size-AnswerValue d ≡ 2 * (depth d + 1) = omega arith in omega (arith, one, twice_deep ds)

-- the values of a list are less deep than what it stands for
pub list_below : (s : Shape) (values : Vec Data Global) (d : Data) → s ≡ ListOf values → tree_of s ≡ d
    → most (w_this.weight AnswerValue size-AnswerValue) values.items ≤ 2 * depth d
list_below s values d made is =
    let below : max (max (most (λ e. depth e + 1) values.items) 0) 0 ≤ depth (tree_of (ListOf values)) = parts_below (ListOf values) refl in
    let same : depth (tree_of (ListOf values)) ≡ depth d = ap depth (ap tree_of (sym made) ∙ is) in
    omega (arith, below, same, twice_deep values.items)

-- and than its shape is
pub list_deep : (s : Shape) (values : Vec Data Global) → s ≡ ListOf values
    → most (w_this.weight AnswerValue size-AnswerValue) values.items ≤ 2 * deep-Shape s
list_deep s values made =
    let deep : deep-Shape s ≡ max (most (λ e. depth e + 1) values.items) 0 = ap deep-Shape made in
    omega (arith, deep, twice_deep values.items)

-- so are the values of an object
object_parts : (names : List (List ℕ)) (values : Vec Data Global) → most (λ e. depth e + 1) values.items ≤ deep-Shape (Object names values)
object_parts names values = omega arith

pub object_below : (s : Shape) (names : List (List ℕ)) (values : Vec Data Global) (d : Data) → s ≡ Object names values → is_in_form s ≡ true → tree_of s ≡ d
    → most (w_this.weight AnswerValue size-AnswerValue) values.items ≤ 2 * depth d
object_below s names values d made form is =
    let below : max (deep-Shape (Object names values)) 0 ≤ depth (tree_of (Object names values)) =
    parts_below (Object names values) (ap is_in_form (sym made) ∙ form) in
    let same : depth (tree_of (Object names values)) ≡ depth d = ap depth (ap tree_of (sym made) ∙ is) in
    omega (arith, below, same, twice_deep values.items, object_parts names values)

pub object_deep : (s : Shape) (names : List (List ℕ)) (values : Vec Data Global) → s ≡ Object names values
    → most (w_this.weight AnswerValue size-AnswerValue) values.items ≤ 2 * deep-Shape s
object_deep s names values made =
    let deep : deep-Shape s ≡ deep-Shape (Object names values) = ap deep-Shape made in
    omega (arith, deep, twice_deep values.items, object_parts names values)

-- an object has its values under their names
pub object_tree : (s : Shape) (names : List (List ℕ)) (values : Vec Data Global) (d : Data) → s ≡ Object names values → is_in_form s ≡ true → tree_of s ≡ d
    → object (zipped names values.items) ≡ d
object_tree s names values d made form is =
    ap object (sym (fits_together names values.items (ap is_in_form (sym made) ∙ form)).zip) ∙ (ap tree_of (sym made) ∙ is)

-- an object's names and values, as its tree has them
pub object_fits : (s : Shape) (names : List (List ℕ)) (values : Vec Data Global) → s ≡ Object names values → is_in_form s ≡ true
    → FitsTogether names values.items
object_fits s names values made form = fits_together names values.items (ap is_in_form (sym made) ∙ form)

-- ---- one step of a loop over the values of a list

module _ (xs : List Data) (i : ℕ) (x : Data) (low : i < length xs) (is : x ≡ get_or xs i x) where
  -- what stands before a value, and then the value, come off the text of the rest
  pub text_next : (later : Bool) (now with_mark next whole : List ℕ) → now ++ items_text later (items_of (drop i xs)) ≡ whole
      → with_mark ≡ now ++ comma_if later → next ≡ with_mark ++ compact_text x → next ++ items_text true (items_of (drop (i + 1) xs)) ≡ whole
  text_next later now with_mark next whole so_far marked written =
      let rest = items_text true (items_of (drop (i + 1) xs)) in
      let front : drop i xs ≡ x ∷ drop (i + 1) xs = drop_more xs i x low ∙ ap (λ z. z ∷ drop (i + 1) xs) (sym is) in
      ap (λ t. t ++ rest) written
      ∙ (append_assoc with_mark (compact_text x) rest
      ∙ (ap (λ t. t ++ (compact_text x ++ rest)) marked
      ∙ (append_assoc now (comma_if later) (compact_text x ++ rest)
      ∙ (ap (λ ds. now ++ items_text later (items_of ds)) (sym front) ∙ so_far))))

  -- a copy is pushed behind those of the values before
  pub copied_next : (vs more : List Value) (v : Value) → map view vs ≡ take i xs → more ≡ vs ++ v ∷ [] → view v ≡ x → map view more ≡ take (i + 1) xs
  copied_next vs more v so_far pushed copied =
      ap (map view) pushed
      ∙ (map-append view vs (v ∷ [])
      ∙ (ap (λ ds. ds ++ view v ∷ []) so_far ∙ (ap (λ d. take i xs ++ d ∷ []) (copied ∙ is) ∙ sym (take_more xs i x low))))

-- ---- the items of a row

array_whole : (d : Data) (ds : Items) → as_array d ≡ Some ds → has_float d ≡ false → items_have_float ds ≡ false
array_whole null ds e whole = absurd (none_absurd ds e)
array_whole (boolean b) ds e whole = absurd (none_absurd ds e)
array_whole (number n) ds e whole = absurd (none_absurd ds e)
array_whole (string s) ds e whole = absurd (none_absurd ds e)
array_whole (array es) ds e whole = ap items_have_float (sym (some_same es ds e)) ∙ whole
array_whole (object ms) ds e whole = absurd (none_absurd ds e)

pub row_items_whole : (d : Data) (vs : List Value) → Some (items_view vs) ≡ as_array d → has_float d ≡ false → items_have_float (items_view vs) ≡ false
row_items_whole d vs e whole = array_whole d (items_view vs) (sym e) whole

pub item_whole : (vs : List Value) (i : ℕ) (v : Value) → i < length vs → v ≡ get_or vs i v → items_have_float (items_view vs) ≡ false → has_float (view v) ≡ false
item_whole [] i v low is whole = absurd (omega arith)
item_whole (w ∷ ws) zero v low is whole = ap (λ u. has_float (view u)) is ∙ (or_parts (has_float (view w)) (items_have_float (items_view ws)) whole).0
item_whole (w ∷ ws) (suc i) v low is whole =
    item_whole ws i v (omega arith) is (or_parts (has_float (view w)) (items_have_float (items_view ws)) whole).1

-- ---- members, from the last

or_false : (a b : Bool) → a ≡ false → b ≡ false → (a || b) ≡ false
or_false a b e f = ap (λ x. x || b) e ∙ f

by_place : (names : List (List ℕ)) (n : ℕ) (d : Data) (ds : Items)
    → put_named (slice_get names n) d (members_with (drop (suc n) names) ds) ≡ members_with (drop n names) (item d ds)
by_place [] zero d ds = refl
by_place [] (suc n) d ds = refl
by_place (x ∷ xs) zero d ds = refl
by_place (x ∷ xs) (suc n) d ds = by_place xs n d ds

pub member_next : (names : List (List ℕ)) (all vs more done : List Value) (v : Value) (before after : Members) → all ≡ vs ++ done → vs ≡ more ++ v ∷ []
    → before ≡ members_with (drop (length vs) names) (items_view done) → after ≡ put_named (slice_get names (length more)) (view v) before
    → (all ≡ more ++ v ∷ done) × (after ≡ members_with (drop (length more) names) (items_view (v ∷ done)))
member_next names all vs more done v before after whole last was put_there =
    let long : length vs ≡ length more + 1 = ap length last ∙ length-append more (v ∷ []) in
    let next : length vs ≡ suc (length more) = omega arith in (
      whole ∙ (ap (λ l. l ++ done) last ∙ append_assoc more (v ∷ []) done),
      put_there ∙ (ap (put_named (slice_get names (length more)) (view v)) (was ∙ ap (λ k. members_with (drop k names) (items_view done)) next)
          ∙ by_place names (length more) (view v) (items_view done)),
    )

-- the last of values without floats has none, nor have those before it
pub last_whole : (more : List Value) (v : Value) → items_have_float (items_view (more ++ v ∷ [])) ≡ false
    → (has_float (view v) ≡ false) × (items_have_float (items_view more) ≡ false)
last_whole [] v whole = ((or_parts (has_float (view v)) false whole).0, refl)
last_whole (w ∷ more) v whole =
    let parts = or_parts (has_float (view w)) (items_have_float (items_view (more ++ v ∷ []))) whole in
    let rest = last_whole more v parts.1 in
    (rest.0, or_false (has_float (view w)) (items_have_float (items_view more)) parts.0 rest.1)

-- no values make no members
pub none_named : (names : List (List ℕ)) → no_members ≡ members_with names no_items
none_named [] = refl
none_named (n ∷ names) = refl

put_step : (o : Ordering) (a b c : Members) → members_have_float a ≡ false → members_have_float b ≡ false → members_have_float c ≡ false
    → members_have_float (match_ordering o a b c) ≡ false
put_step Less a b c x y z = x
put_step Equal a b c x y z = y
put_step Greater a b c x y z = z

-- a member without a float among members without one
pub put_whole : (k : List ℕ) (d : Data) (ms : Members) → has_float d ≡ false → members_have_float ms ≡ false → members_have_float (put k d ms) ≡ false
put_whole k d no_members one rest = or_false (has_float d) false one refl
put_whole k d (member l e ms) one rest =
    let parts = or_parts (has_float e) (members_have_float ms) rest in
    put_step (slice_cmp nat_cmp k l) (member k d (member l e ms)) (member l d ms) (member l e (put k d ms))
    (or_false (has_float d) (members_have_float (member l e ms)) one rest) (or_false (has_float d) (members_have_float ms) one parts.1)
    (or_false (has_float e) (members_have_float (put k d ms)) parts.0 (put_whole k d ms one parts.1))

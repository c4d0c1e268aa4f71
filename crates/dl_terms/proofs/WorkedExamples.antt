-- What terms over lists give and wait for, worked out by the definitions alone.
use Rattle.std.proofs.Common.{◌≡◌, ◌∙◌, ap, refl, ℕ, zero, suc, Bool, true, false, [], ◌∷◌, Option, Some, None, if◌then◌else◌, nat_lt}
use Rattle.serde_json.specs.Data.{Data, number, unsigned, string, array, object, Items, no_items, item, no_members, member}
use Rattle.dl_values.specs.Key.{Key}
use Rattle.dl_values.specs.declared.outcome.Outcome.{Outcome}
use Rattle.dl_values.specs.declared.outcome.Outcome.TheVariants as outcome
use Rattle.dl_terms.specs.declared.answer.Answer.TheVariants.{Value, Fault}
use Rattle.dl_terms.specs.declared.answer.EvalFault.TheVariants as why
use Rattle.dl_terms.specs.Tree.{Name, Tree, ended, load, pick, follow, all, over, the_item, named, no_trees, tree, depth_of, height_of, with_item}
use Rattle.dl_terms.specs.TermAnswers.{Listed, few_items, items_count, most_items, answer, waits}

-- the names and values of the examples
abbrev a : Name
a = 97 ∷ []

abbrev b : Name
b = 98 ∷ []

abbrev t : Name
t = 116 ∷ []

abbrev one : Data
one = number (unsigned 1)

abbrev two : Data
two = number (unsigned 2)

abbrev list_of_two : Data
list_of_two = array (item one (item two no_items))

abbrev value : Data → Tree
value d = ended (Value d)

abbrev key_of : Name → Key
key_of id = record { table = t; id = id }

-- what an object with one member is
abbrev just : Name → Data → Data
just n d = object (member n d no_members)

module _ (known : Key → Option Outcome) where
  -- no items
  no_copies : answer known (over (value (array no_items)) (load (key_of a))) ≡ Some (Value (array no_items))
  no_copies = refl

  -- the values stand in the order of the items
  in_order : answer known (over (value list_of_two) the_item) ≡ Some (Value list_of_two)
  in_order = refl

  -- an item that is a list, and the item of the inner over
  inner_item : answer known (over (value (array (item list_of_two no_items))) (over the_item (named (a ∷ []) (tree the_item no_trees))))
      ≡ Some (Value (array (item (array (item (just a one) (item (just a two) no_items))) no_items)))
  inner_item = refl

  -- an over in the part of another one
  over_in_part : answer known (over (over (value list_of_two) (all (tree the_item no_trees))) (over the_item the_item))
      ≡ Some (Value (array (item (array (item one no_items)) (item (array (item two no_items)) no_items))))
  over_in_part = refl

  -- a fault in one copy is the fault of all
  one_fails : answer known (over (value (array (item (just a one) (item two no_items)))) (pick the_item a)) ≡ Some (Fault why.NoField)
  one_fails = refl

  -- of two faults the leftmost counts
  first_copy_fails : answer known (over (value (array (item one (item (just a two) no_items)))) (over (pick the_item a) the_item)) ≡ Some (Fault why.NoField)
  first_copy_fails = refl

  second_copy_fails : answer known (over (value (array (item (just a list_of_two) (item (just a two) no_items)))) (over (pick the_item a) the_item))
      ≡ Some (Fault why.NotAList)
  second_copy_fails = refl

  first_member_fails : answer known (named (a ∷ b ∷ []) (tree (pick (value one) a) (tree (over (value one) the_item) no_trees))) ≡ Some (Fault why.NoField)
  first_member_fails = refl

  -- an object has its members in the order of their names, whatever the order of its parts
  by_name : answer known (named (b ∷ a ∷ []) (tree (value one) (tree (value two) no_trees))) ≡ Some (Value (object (member a two (member b one no_members))))
  by_name = refl

  -- of two parts with the same name the first counts
  first_counts : answer known (named (a ∷ a ∷ []) (tree (value one) (tree (value two) no_trees))) ≡ Some (Value (just a one))
  first_counts = refl

  -- an item under no body
  no_item : answer known the_item ≡ Some (Fault why.NoItem)
  no_item = refl

-- ---- rounds

-- what gives the people to follow: a list of two rows
abbrev people : Data
people = array (item (just a (string b)) (item (just a (string t)) no_items))

abbrev first_round : Key → Option Outcome
first_round k = None

abbrev second_round : Key → Option Outcome
second_round k = Some (outcome.Value people)

-- first the list is missing, and then a key for each item
waits_for_list : waits first_round (over (load (key_of a)) (follow the_item a t)) ≡ key_of a ∷ []
waits_for_list = refl

waits_for_copies : waits first_round (over (value people) (follow the_item a t)) ≡ key_of b ∷ key_of t ∷ []
waits_for_copies = refl

all_come : answer second_round (over (value people) (follow the_item a t)) ≡ Some (Value (array (item people (item people no_items))))
all_come = refl

two_rounds : depth_of (over (load (key_of a)) (follow the_item a t)) ≡ 2
two_rounds = refl

copies_as_deep : depth_of (with_item people (follow the_item a t)) ≡ 1
copies_as_deep = refl

as_high : height_of (over (load (key_of a)) (follow the_item a t)) ≡ 3
as_high = refl

-- ---- the most items

abbrev many : ℕ → Items
many zero = no_items
many (suc n) = item one (many n)

counted : (n : ℕ) → items_count (many n) ≡ n
counted zero = refl
counted (suc n) = ap suc (counted n)

limit_step : (n : ℕ) (over_it : Bool) → nat_lt most_items n ≡ over_it → few_items (many n) ≡ if over_it then Listed.none why.TooMany else Listed.items (many n)
limit_step n over_it e = ap (λ x. if x then Listed.none why.TooMany else Listed.items (many n)) (ap (nat_lt most_items) (counted n) ∙ e)

as_many_as_may_be : few_items (many 1024) ≡ Listed.items (many 1024)
as_many_as_may_be = limit_step 1024 false refl

one_too_many : few_items (many 1025) ≡ Listed.none why.TooMany
one_too_many = limit_step 1025 true refl

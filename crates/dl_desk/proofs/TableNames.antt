-- Look-ups among names that are ordered by their numbers first.
use Rattle.std.proofs.Common.{◌≡◌, ◌∙◌, sym, ap, ℕ, List, Bool, true, false, ◌&&◌, cond, Some, Ordering, Less, Equal, Greater, bytes_eq, refl}
use Rattle.std.specs.Ordering.{is_eq, ordering_then, nat_cmp}
use Rattle.std.specs.Cmp.{nat_cmp_total, tied_itself}
use Rattle.std.specs.Cmp.Lexicographic.{slice_cmp}
use Rattle.std.specs.Map.{lookup}
use Rattle.std.specs.BTreeMap.{BTreeMap, Updates, is_at}
use Rattle.std.proofs.lemmas.Map.Text.{is_eq-slice_cmp}
use Rattle.dl_values.proofs.Names.{bytes_eq-same}
use Rattle.dl_desk.specs.Inside.TableName.{number_of, name_cmp}

is_eq-then : (o p : Ordering) → is_eq (ordering_then o p) ≡ (is_eq o && is_eq p)
is_eq-then Less p = refl
is_eq-then Equal p = refl
is_eq-then Greater p = refl

and_false : (b : Bool) → (b && false) ≡ false
and_false true = refl
and_false false = refl

-- names are told apart as their bytes are
pub same_name : (a b : List ℕ) → is_eq (name_cmp a b) ≡ bytes_eq a b
same_name a b =
    is_eq-then (nat_cmp (number_of a) (number_of b)) (slice_cmp nat_cmp a b)
    ∙ ap (λ t. is_eq (nat_cmp (number_of a) (number_of b)) && t) (is_eq-slice_cmp a b)
    ∙ by (bytes_eq a b) refl
  where
    by : (t : Bool) → bytes_eq a b ≡ t → (is_eq (nat_cmp (number_of a) (number_of b)) && t) ≡ t
    by true same = rw (← (bytes_eq-same a b same), tied_itself nat_cmp_total (number_of a)) refl
    by false not = and_false (is_eq (nat_cmp (number_of a) (number_of b)))

module _ {X : Type 0} where
  -- what is found by the order is found by the bytes
  pub lookup-name : (name : List ℕ) (es : List (List ℕ × X)) → lookup (is_at (name_cmp name)) es ≡ lookup (bytes_eq name) es
  lookup-name name es = ap (λ (test : List ℕ → Bool). lookup test es) (λ i k. same_name name k i)

  -- what is found after a name was told another value
  pub lookup-told : (m n : BTreeMap (List ℕ) X) (name : List ℕ) (x : X) → Updates name_cmp m n name (Some x)
      → (q : List ℕ) → lookup (bytes_eq q) n.entries ≡ cond (bytes_eq name q) (Some x) (lookup (bytes_eq q) m.entries)
  lookup-told m n name x updates q =
      sym (lookup-name q n.entries)
      ∙ updates.0 q
      ∙ ap (λ t. cond t (Some x) (lookup (is_at (name_cmp q)) m.entries)) (same_name name q)
      ∙ ap (cond (bytes_eq name q) (Some x)) (lookup-name q m.entries)

-- Look-ups by a text, in lists of names and in maps whose keys are strings.
use Rattle.std.proofs.Common.{◌≡◌, ◌∙◌, ap, sym, subst, ℕ, List, [], ◌∷◌, ◌++◌, Bool, true, false, ◌||◌, cond, Option, Some, None, is_some, String, string_bytes, bytes_eq, refl}
use Rattle.std.specs.BTreeMap.{BTreeMap, Updates, get, get_by_text, is_at}
use Rattle.std.specs.Ordering.{is_eq, nat_cmp}
use Rattle.std.specs.Cmp.Lexicographic.{slice_cmp}
use Rattle.std.specs.String.{string_cmp}
use Rattle.std.specs.declared.alloc.Global.{Global}
use Rattle.std.specs.Map.{lookup}
use Rattle.std.proofs.lemmas.Map.Text.{is_eq-slice_cmp, btree_map_updates_text}
use Rattle.std.proofs.lemmas.Slice.Eq.{bytes_eq-Decides}
use Rattle.dl_values.specs.TableLimits.{named, lists}
use Rattle.dl_values.proofs.Repeats.{bytes_eq-comm}

pub bytes_eq-same : (x y : List ℕ) → bytes_eq x y ≡ true → x ≡ y
bytes_eq-same x y e = (bytes_eq-Decides x y).0 e

module _ {X : Type 0} where
  either : (v : X) (b c : Bool) (o p : Option X) → b ≡ c → o ≡ p → cond b (Some v) o ≡ cond c (Some v) p
  either v b c o p same rest = rw (same, rest) refl

  each_named : (name : List ℕ) (es : List (String Global × X)) → lookup (bytes_eq name) (named es) ≡ lookup (is_at (λ k. slice_cmp nat_cmp name (string_bytes k))) es
  each_named name [] = refl
  each_named name (e ∷ es) =
      either e.1 (bytes_eq name (string_bytes e.0)) (is_eq (slice_cmp nat_cmp name (string_bytes e.0))) (lookup (bytes_eq name) (named es))
      (lookup (is_at (λ k. slice_cmp nat_cmp name (string_bytes k))) es) (sym (is_eq-slice_cmp name (string_bytes e.0))) (each_named name es)

  -- a look-up in a map sees only the texts of its keys
  pub lookup-named : (name : List ℕ) (m : BTreeMap (String Global) X) → lookup (bytes_eq name) (named m.entries) ≡ get_by_text m name
  lookup-named name m = each_named name m.entries

  or-is_some : (b r : Bool) (x : X) (o : Option X) → r ≡ is_some o → (b || r) ≡ is_some (cond b (Some x) o)
  or-is_some true r x o h = refl
  or-is_some false r x o h = h

  -- a name is listed where a look-up finds it
  pub lists-lookup : (name : List ℕ) (es : List (List ℕ × X)) → lists name es ≡ is_some (lookup (bytes_eq name) es)
  lists-lookup name [] = refl
  lists-lookup name (e ∷ es) = or-is_some (bytes_eq name e.0) (lists name es) e.1 (lookup (bytes_eq name) es) (lists-lookup name es)

  module _ (m n : BTreeMap (String Global) X) (k : String Global) (name : List ℕ) (is : string_bytes k ≡ name) where
    -- a name is listed where the map has its key
    pub lists-get : lists name (named m.entries) ≡ is_some (get string_cmp m k)
    lists-get = lists-lookup name (named m.entries) ∙ ap is_some (lookup-named name m ∙ ap (get_by_text m) (sym is))

    -- what is found after an insertion
    pub lookup-inserted : (x : X) → Updates string_cmp m n k (Some x) → (q : List ℕ)
        → lookup (bytes_eq q) (named n.entries) ≡ cond (bytes_eq name q) (Some x) (lookup (bytes_eq q) (named m.entries))
    lookup-inserted x updates q =
        lookup-named q n
        ∙ btree_map_updates_text (string_bytes k) m n (Some x) updates q
        ∙ either x (bytes_eq (string_bytes k) q) (bytes_eq name q) (get_by_text m q) (lookup (bytes_eq q) (named m.entries)) (ap (λ b. bytes_eq b q) is)
        (sym (lookup-named q m))

  -- ---- a list with one more name

  miss_step : (t : Bool) (v : X) (o p : Option X) → o ≡ p → cond t (Some v) o ≡ cond t (Some v) p
  miss_step t v o p same = rw same refl

  last_missed : (test : List ℕ → Bool) (es : List (List ℕ × X)) (k : List ℕ) (x : X) → test k ≡ false → lookup test (es ++ (k, x) ∷ []) ≡ lookup test es
  last_missed test [] k x miss = rw miss refl
  last_missed test (e ∷ es) k x miss = miss_step (test e.0) e.1 (lookup test (es ++ (k, x) ∷ [])) (lookup test es) (last_missed test es k x miss)

  hit_step : (t : Bool) (v x : X) (o p : Option X) → cond t (Some v) o ≡ None → (o ≡ None → p ≡ Some x) → cond t (Some v) p ≡ Some x
  hit_step true v x o p none rest = absurd (let bad : ◌≡◌ {A = Option X} (Some v) None = none in cc)
  hit_step false v x o p none rest = rest none

  last_hit : (test : List ℕ → Bool) (es : List (List ℕ × X)) (k : List ℕ) (x : X) → test k ≡ true → lookup test es ≡ None
      → lookup test (es ++ (k, x) ∷ []) ≡ Some x
  last_hit test [] k x hit none = rw hit refl
  last_hit test (e ∷ es) k x hit none =
      hit_step (test e.0) e.1 x (lookup test es) (lookup test (es ++ (k, x) ∷ [])) none (last_hit test es k x hit)

  -- a name that wasn't there is found last
  pub lookup-last : (es : List (List ℕ × X)) (k q : List ℕ) (x : X) → lookup (bytes_eq k) es ≡ None
      → lookup (bytes_eq q) (es ++ (k, x) ∷ []) ≡ cond (bytes_eq k q) (Some x) (lookup (bytes_eq q) es)
  lookup-last es k q x none = by (bytes_eq k q) refl
    where
      by : (t : Bool) → bytes_eq k q ≡ t → lookup (bytes_eq q) (es ++ (k, x) ∷ []) ≡ cond t (Some x) (lookup (bytes_eq q) es)
      by true is =
          let P : List ℕ → Type 0 = λ n. lookup (bytes_eq n) es ≡ None in
          last_hit (bytes_eq q) es k x (bytes_eq-comm q k ∙ is) (subst P (bytes_eq-same k q is) none)
      by false is = last_missed (bytes_eq q) es k x (bytes_eq-comm q k ∙ is)

none_there : {X : Type 0} (o : Option X) → is_some o ≡ false → o ≡ None
none_there None h = refl
none_there {X} (Some x) h = absurd (let bad : ◌≡◌ {A = Bool} true false = h in cc)

-- a name that isn't listed isn't found
pub lookup-unlisted : {X : Type 0} (name : List ℕ) (es : List (List ℕ × X)) → lists name es ≡ false → lookup (bytes_eq name) es ≡ None
lookup-unlisted name es not = none_there (lookup (bytes_eq name) es) (sym (lists-lookup name es) ∙ not)

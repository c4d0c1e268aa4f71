-- What tells two JSON trees apart: a number, or a pair of such, for each.
use Rattle.std.specs.Prelude.{◌≡◌, ◌⊎◌, ℕ, ℤ, Bool, true, false, Float, nat_eq}
use Rattle.std.proofs.Common.{refl, sym, ap, inl, inr, eq-eqb, true≢false}
use Rattle.std.specs.Coded.{Coded, code_by, coded_ℕ, coded_ℤ, coded_bool, coded_list, coded⊎}
use base.Stored.{Gv, gnil, gnum, gcons, coded_float}
use Rattle.serde_json.specs.Data.{Num, unsigned, negative, float, Data, null, boolean, number, string, array, object, Items, no_items, item, Members}
use Rattle.serde_json.specs.Data.{no_members, member}

abbrev split : Num → ℕ ⊎ (ℤ ⊎ Float)
split (unsigned n) = inl n
split (negative z) = inr (inl z)
split (float x) = inr (inr x)

abbrev join : ℕ ⊎ (ℤ ⊎ Float) → Num
join (inl n) = unsigned n
join (inr (inl z)) = negative z
join (inr (inr x)) = float x

pub join-split : (n : Num) → join (split n) ≡ n
join-split (unsigned n) = refl
join-split (negative z) = refl
join-split (float x) = refl

abbrev pub num_code : Coded Num
num_code = code_by (ℕ ⊎ (ℤ ⊎ Float)) (coded⊎ coded_ℕ (coded⊎ coded_ℤ coded_float)) split join join-split

-- a kind of tree, and what it holds
abbrev mutual
  pub tree_code : Data → Gv
  tree_code null = gcons (gnum 0) gnil
  tree_code (boolean b) = gcons (gnum 1) (coded_bool.code b)
  tree_code (number n) = gcons (gnum 2) (num_code.code n)
  tree_code (string s) = gcons (gnum 3) ((coded_list coded_ℕ).code s)
  tree_code (array ds) = gcons (gnum 4) (items_code ds)
  tree_code (object ms) = gcons (gnum 5) (members_code ms)

  pub items_code : Items → Gv
  items_code no_items = gnil
  items_code (item d ds) = gcons (tree_code d) (items_code ds)

  pub members_code : Members → Gv
  members_code no_members = gnil
  members_code (member k d ms) = gcons ((coded_list coded_ℕ).code k) (gcons (tree_code d) (members_code ms))

abbrev head : Gv → Gv
head gnil = gnil
head (gnum n) = gnil
head (gcons a b) = a

abbrev tail : Gv → Gv
tail gnil = gnil
tail (gnum n) = gnil
tail (gcons a b) = b

abbrev number_at : Gv → ℕ
number_at gnil = 0
number_at (gnum n) = n
number_at (gcons a b) = 0

abbrev is_pair : Gv → Bool
is_pair gnil = false
is_pair (gnum n) = false
is_pair (gcons a b) = true

-- trees of one code are of one kind
pub same_kind : (x y : Data) → tree_code x ≡ tree_code y → nat_eq (number_at (head (tree_code x))) (number_at (head (tree_code y))) ≡ true
same_kind x y p = eq-eqb _ _ (ap (λ g. number_at (head g)) p)

mutual
  pub same_tree : (x y : Data) → tree_code x ≡ tree_code y → x ≡ y
  same_tree null null p = refl
  same_tree (boolean b) (boolean c) p = ap boolean (coded_bool.inj b c (ap tail p))
  same_tree (number m) (number n) p = ap number (num_code.inj m n (ap tail p))
  same_tree (string s) (string t) p = ap string ((coded_list coded_ℕ).inj s t (ap tail p))
  same_tree (array ds) (array es) p = ap array (same_items ds es (ap tail p))
  same_tree (object ms) (object ns) p = ap object (same_members ms ns (ap tail p))
  same_tree x y p = absurd (true≢false (sym (same_kind x y p)))

  pub same_items : (xs ys : Items) → items_code xs ≡ items_code ys → xs ≡ ys
  same_items no_items no_items p = refl
  same_items (item d ds) (item e es) p = λ i. item (same_tree d e (ap head p) i) (same_items ds es (ap tail p) i)
  same_items no_items (item e es) p = absurd (true≢false (sym (ap is_pair p)))
  same_items (item d ds) no_items p = absurd (true≢false (ap is_pair p))

  pub same_members : (xs ys : Members) → members_code xs ≡ members_code ys → xs ≡ ys
  same_members no_members no_members p = refl
  same_members (member k d ms) (member l e ns) p =
      λ i. member ((coded_list coded_ℕ).inj k l (ap head p) i) (same_tree d e (ap (λ g. head (tail g)) p) i) (same_members ms ns (ap (λ g. tail (tail g)) p) i)
  same_members no_members (member l e ns) p = absurd (true≢false (sym (ap is_pair p)))
  same_members (member k d ms) no_members p = absurd (true≢false (ap is_pair p))

-- the code of JSON trees
abbrev pub data_code : Coded Data
data_code = record { code = tree_code; inj = same_tree }

-- A store whose cursor reads a table, and the entries read so far.
use Rattle.std.proofs.Common.{◌≡◌, List, [], ◌∷◌, ◌++◌, map, Option, Some, true, false, refl, sym, ap, subst, ◌∙◌, append-nil, append_assoc}
use Rattle.std.specs.List.{AllByRecursion}
use Rattle.serde_json.specs.Data.{Data}
use Rattle.sqlite_value.specs.Order.{Row}
use Rattle.sqlite_value.specs.declared.keys.Order.{Order}
use Rattle.sqlite_trees.specs.Tree.{Trees, from_key, order_of, sought}
use Rattle.sqlite_trees.specs.View.{View, Advances, with_cursor}
use Rattle.sqlite_trees.specs.declared.store.Direction.TheVariants.{Forward}
use Rattle.sqlite_schema.specs.declared.schema.Table.{Table}
use Rattle.dl_sqlite.specs.Rows.{IsWhole, entry_json}

-- the store has these trees, the cursor has the rest of the table's rows, and the entries of the others are read
pub record IsReading (t : Table) (trees : Trees) (v : View) (entries : List Data) : Type 0 where
  pub left : List Row
  pub cursor : v.cursors 0 ≡ Some left
  pub same : v.trees ≡ trees
  pub json : entries ++ map (entry_json t) left ≡ map (entry_json t) (trees t.tree)
  pub whole : AllByRecursion (IsWhole t) left → AllByRecursion (IsWhole t) (trees t.tree)

all_from : (o : Order) (rows : List Row) → from_key o [] rows ≡ rows
all_from o [] = refl
all_from o (row ∷ rows) = refl

pub begins : (t : Table) (old new : View) → new ≡ with_cursor old 0 (sought (order_of (old.shape t.tree)) Forward [] (old.trees t.tree)) → IsReading t old.trees new []
begins t old new is =
    let rows : List Row = from_key (order_of (old.shape t.tree)) [] (old.trees t.tree) in
    let all : rows ≡ old.trees t.tree = all_from (order_of (old.shape t.tree)) (old.trees t.tree) in
    record {
      left = rows;
      cursor = ap (λ (v : View). v.cursors 0) is;
      same = ap (λ (v : View). v.trees) is;
      json = ap (map (entry_json t)) all;
      whole = subst (AllByRecursion (IsWhole t)) all;
    }

same_left : (a b : List Row) → ◌≡◌ {A = Option (List Row)} (Some a) (Some b) → a ≡ b
same_left a b e = cc

pub goes_on : (t : Table) (trees : Trees) (old new : View) (entries : List Data) (row : Row) (entry : Data) → IsReading t trees old entries → Advances old new 0 row true
    → entry ≡ entry_json t row → IsWhole t row → IsReading t trees new (entries ++ entry ∷ [])
goes_on t trees old new entries row entry was moved is whole =
    let left = moved.0 in
    let here : was.left ≡ row ∷ left = same_left was.left (row ∷ left) (sym was.cursor ∙ moved.1) in
    record {
      left = left;
      cursor = ap (λ (v : View). v.cursors 0) moved.2;
      same = ap (λ (v : View). v.trees) moved.2 ∙ was.same;
      json = append_assoc entries (entry ∷ []) (map (entry_json t) left) ∙ ap (λ d. entries ++ d ∷ map (entry_json t) left) is
          ∙ ap (λ rows. entries ++ map (entry_json t) rows) (sym here) ∙ was.json;
      whole = λ rest. was.whole (subst (AllByRecursion (IsWhole t)) (sym here) (whole, rest));
    }

pub ends : (t : Table) (trees : Trees) (old new : View) (entries : List Data) (row : Row) → IsReading t trees old entries → Advances old new 0 row false
    → (entries ≡ map (entry_json t) (trees t.tree)) × AllByRecursion (IsWhole t) (trees t.tree) × (new.trees ≡ trees)
ends t trees old new entries row was moved =
    let none : was.left ≡ [] = same_left was.left [] (sym was.cursor ∙ moved.0) in (
      sym (append-nil entries) ∙ ap (λ rows. entries ++ map (entry_json t) rows) (sym none) ∙ was.json,
      was.whole (subst (AllByRecursion (IsWhole t)) (sym none) tt),
      ap (λ (v : View). v.trees) moved.1 ∙ was.same,
    )

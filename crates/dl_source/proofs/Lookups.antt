-- Look-ups by a text in findings whose keys are strings.
use Rattle.std.proofs.Common.{◌≡◌, ℕ, List, [], ◌∷◌, Some, None, Option, ok_or, cond, ap, sym, ◌∙◌, refl, String, string_bytes, bytes_eq, codes}
use Rattle.std.proofs.Common.{option_copied, Bor, Bool, true, false, ◌||◌, is_some, ◌++◌, true≢false}
use Rattle.std.proofs.lemmas.List.{map-append}
use Rattle.std.specs.String.{string_eq}
use Rattle.indexmap.specs.IndexMap.{IndexMap, get, insert_entry}
use Rattle.indexmap.proofs.CallerLemmas.{insert_entry-new}
use Rattle.dl_values.specs.TableLimits.{lists}
use Rattle.std.specs.Result.{result_copied}
use Rattle.std.specs.declared.alloc.Global.{Global}
use Rattle.std.specs.Map.{lookup}
use Rattle.dl_values.specs.Key.{Key}
use Rattle.dl_source.specs.declared.tables.Finding.{Finding}
use Rattle.dl_source.specs.Tables.{Table, Tables, named}
use Rattle.dl_source.specs.Answer.{finding_at, found, found_in}

-- a look-up sees only the texts of the keys
pub lookup-named : {X : Type 0} (name : List ℕ) (es : List (String Global × X))
    → lookup (bytes_eq name) (named es) ≡ lookup (λ k. bytes_eq name (string_bytes k)) es
lookup-named name [] = refl
lookup-named name (e ∷ es) = ap (λ r. cond (bytes_eq name (string_bytes e.0)) (Some e.1) r) (lookup-named name es)

-- what is found under a key, once its table was looked up
pub found-named : (tables : Tables) (es : List (String Global × Table)) (k : Key) (name : List ℕ) (table : Option Table) → named es ≡ tables
    → name ≡ k.table
    → table ≡ lookup (λ s. bytes_eq name (string_bytes s)) es → found tables k ≡ found_in table k.id
found-named tables es k name table seen at is =
    ap (λ t. found_in t k.id) (ap (λ ts. lookup (bytes_eq k.table) ts) (sym seen) ∙ ap (λ n. lookup (bytes_eq n) (named es)) (sym at) ∙ lookup-named name es
    ∙ sym is)

copied-ok_or : (o : Option (Bor Finding)) (m : Bor (List ℕ)) → result_copied (ok_or o m) ≡ ok_or (option_copied o) m.now
copied-ok_or None m = refl
copied-ok_or (Some e) m = refl

-- what is found in a table, once its finding was looked up
pub found_row : (rows : Table) (id at : List ℕ) (o : Option (Bor Finding)) (m : Bor (List ℕ)) → option_copied o ≡ finding_at rows at → at ≡ id
    → m.now ≡ codes "no row"
    → result_copied (ok_or o m) ≡ found_in (Some rows) id
found_row rows id at o m finding same says =
    copied-ok_or o m ∙ ap (λ t. ok_or (option_copied o) t) says ∙ ap (λ e. ok_or e (codes "no row")) (finding ∙ ap (finding_at rows) same)

or-is_some : {X : Type 0} (b r : Bool) (x : X) (o : Option X) → r ≡ is_some o → (b || r) ≡ is_some (cond b (Some x) o)
or-is_some true r x o h = refl
or-is_some false r x o h = h

-- a name is listed where a look-up finds it
pub lists-named : {X : Type 0} (name : List ℕ) (es : List (String Global × X))
    → lists name (named es) ≡ is_some (lookup (λ k. bytes_eq name (string_bytes k)) es)
lists-named name [] = refl
lists-named name (e ∷ es) = or-is_some (bytes_eq name (string_bytes e.0)) _ e.1 _ (lists-named name es)

-- a new key goes last
pub named-last : {X : Type 0} (es : List (String Global × X)) (k : String Global) (x : X) → named (es ++ (k, x) ∷ []) ≡ named es ++ (string_bytes k, x) ∷ []
named-last {X} es k x = map-append (λ (e : String Global × X). (string_bytes e.0, e.1)) es ((k, x) ∷ [])

none_there : {X : Type 0} (o : Option X) → is_some o ≡ false → o ≡ None
none_there None h = refl
none_there (Some x) h = absurd (true≢false h)

module _ {X S : Type 0} (m : IndexMap (String Global) X S) (k : String Global) (name : List ℕ) (is : string_bytes k ≡ name) where
  -- a name is listed where the map has its key
  pub lists-get : lists name (named m.entries) ≡ is_some (get string_eq m k)
  lists-get = ap (λ n. lists n (named m.entries)) (sym is) ∙ lists-named (string_bytes k) m.entries

  -- what an insertion at a new key leaves
  pub named-insert : (x : X) → lists name (named m.entries) ≡ false → named (insert_entry string_eq m.entries k x) ≡ named m.entries ++ (name, x) ∷ []
  named-insert x new =
      ap named (insert_entry-new string_eq m k x (none_there (get string_eq m k) (sym lists-get ∙ new)))
      ∙ named-last m.entries k x
      ∙ ap (λ n. named m.entries ++ (n, x) ∷ []) is

-- SQLite's own tables are left out, and the others taken.
use Rattle.std.proofs.Common.{◌≡◌, ◌<◌, ◌&&◌, List, [], ◌∷◌, length, Bool, true, false, true≢false, refl, sym, ◌∙◌, arith}
use Rattle.std.specs.List.{list_all}
use Rattle.sqlite_schema.specs.declared.schema.Column.{Column}
use Rattle.sqlite_schema.specs.declared.schema.Table.{Table}
use Rattle.dl_sqlite.specs.Form.{has_form, has_json_kind, is_internal, own_tables, starts_with_id}

pub own_skipped : (t : Table) (ts : List Table) → is_internal t.name ≡ true → own_tables (t ∷ ts) ≡ own_tables ts
own_skipped t ts is = rw is

pub own_taken : (t : Table) (ts : List Table) → is_internal t.name ≡ false → own_tables (t ∷ ts) ≡ t ∷ own_tables ts
own_taken t ts is = rw is

columns_some : (cs : List Column) (rest : Bool) → (starts_with_id cs && rest) ≡ true → 0 < length cs
columns_some [] rest e = absurd (true≢false (sym e))
columns_some (c ∷ cs) rest e = omega arith

-- a table that is read has columns
pub has_columns : (t : Table) → has_form t ≡ true → 0 < length t.columns
has_columns t e = columns_some t.columns (list_all (λ c. has_json_kind c.kind) t.columns) e

-- a store that isn't broken is open
pub open_unless_broken : (is_open is_broken : Bool) → (is_open ≡ false → is_broken ≡ true) → is_broken ≡ false → is_open ≡ true
open_unless_broken true is_broken law sound = refl
open_unless_broken false is_broken law sound = absurd (true≢false (sym (law refl) ∙ sound))

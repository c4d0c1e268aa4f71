-- Tables with limits of their own as C hands them in.
use Rattle.std.specs.Prelude.{◌≡◌, ℕ, ◌<◌, ◌≤◌, ◌⊎◌, List, length, take, Option, Some, None}
use Rattle.std.specs.List.{All}
use Rattle.std.specs.Str.{IsUtf8}
use Rattle.dl_values.specs.TableLimits.{pairs, GiveTheSame, fault_of}
use Rattle.dl_values.specs.declared.table_limits.TableLimit.{TableLimit}
use Rattle.dl_c_values.specs.declared.codes.TheConstants.{OUT_OF_MEMORY, BAD_LENGTHS, BAD_TEXT}
use Rattle.dl_c_values.specs.declared.tables.NamedLimit.{NamedLimit}
use Rattle.dl_c_values.specs.Codes.{table_code_by}
use Rattle.dl_c_values.specs.Cuts.{parts, total_by, IsFirstFault}

-- the table at the front of the names
abbrev pub front_table : List ℕ → NamedLimit → TableLimit
front_table names l = record { table = take l.name_len names; limit = l.limit }

-- how many bytes a name takes
abbrev pub name_width : NamedLimit → ℕ
name_width l = l.name_len

-- the tables that lengths cut the names into, from the front on, each with its limit
abbrev pub tables_of : List ℕ → List NamedLimit → List TableLimit
tables_of names ls = parts name_width front_table names ls

-- the name of the table is a text of UTF-8
abbrev pub IsNamed : TableLimit → Type 0
IsNamed t = IsUtf8 t.table

-- The lengths take all names and no more, and each name is a text.
pub record AreNames (names : List ℕ) (ls : List NamedLimit) : Type 0 where
  pub whole : total_by name_width ls ≡ length names
  pub are_named : All IsNamed (tables_of names ls)

-- Why there is no table at the front of the names: they are too few for its length, its name is none, or memory is short.
abbrev pub IsFrontFault : List ℕ → NamedLimit → ℕ → Type 0
IsFrontFault names l code = ((code ≡ BAD_LENGTHS) × (length names < l.name_len))
    ⊎ (((l.name_len ≤ length names) × (code ≡ BAD_TEXT) × ¬ (IsNamed (front_table names l))) ⊎ (code ≡ OUT_OF_MEMORY))

-- Why names aren't cut into tables: the first of them that can't be read tells, or memory is short.
abbrev pub IsNamesFault : List ℕ → List NamedLimit → ℕ → Type 0
IsNamesFault names ls code = IsFirstFault name_width front_table IsNamed BAD_TEXT names ls code ⊎ (code ≡ OUT_OF_MEMORY)

-- Why tables have no limits of their own: the names aren't cut into tables, or they are, and the tables with their limits are refused.
abbrev pub IsTablesFault : List ℕ → List NamedLimit → ℕ → Type 0
IsTablesFault names ls code = IsNamesFault names ls code ⊎ (AreNames names ls × (code ≡ table_code_by (fault_of (tables_of names ls))))

-- each batch is of one table, and the tables have these limits of their own
abbrev pub AreLimitsOf : Option (List (List ℕ × ℕ)) → List TableLimit → Type 0
AreLimitsOf None ts = ⊥
AreLimitsOf (Some us) ts = GiveTheSame us (pairs ts)

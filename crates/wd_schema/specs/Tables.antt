-- Tables as pure data, and how contracts see those of the code.
use Rattle.std.specs.Prelude.{ℕ, Bool, List, map}
use Rattle.wd_schema.specs.declared.table.Column.{Column}
use Rattle.wd_schema.specs.declared.table.Key.{Key}
use Rattle.wd_schema.specs.declared.table.Table.{Table}

-- a key: the numbers of its columns, whether it is the primary key, and whether NULLs in it are distinct
pub record KeyRule : Type 0 where
  pub columns : List ℕ
  pub primary : Bool
  pub nulls_distinct : Bool

-- a table: its name, its columns and its keys
pub record TableRule : Type 0 where
  pub name : List ℕ
  pub columns : List Column
  pub keys : List KeyRule

abbrev pub key_of : Key → KeyRule
key_of k = record { columns = k.columns.items; primary = k.primary; nulls_distinct = k.nulls_distinct }

abbrev pub table_of : Table → TableRule
table_of t = record { name = t.name; columns = t.columns.items; keys = map key_of t.keys.items }

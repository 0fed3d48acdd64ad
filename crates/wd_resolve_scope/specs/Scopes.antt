-- What names stand for: the tables of FROM, and their columns from left to right (SQL, identifier chain; PG, Column References).
use Rattle.std.specs.Prelude.{ℕ, Bool, ◌&&◌, List, ◌++◌, length, zip, Option, Some, None}
use Rattle.std.specs.List.{list_any, range_with_len}
use Rattle.std.specs.Str.{bytes_eq}
use Rattle.wd_resolve_scope.specs.declared.scope.Scope.{Scope}
use Rattle.wd_resolve_scope.specs.declared.scope.ScopeColumn.{ScopeColumn}

-- the names of the tables of FROM, and their columns
pub record ScopeRule : Type 0 where
  pub tables : List (List ℕ)
  pub columns : List ScopeColumn

abbrev pub scope_of : Scope → ScopeRule
scope_of s = record { tables = s.tables.items; columns = s.columns.items }

-- columns of FROM with their numbers
abbrev pub numbered : List ScopeColumn → List (ℕ × ScopeColumn)
numbered columns = zip (range_with_len 0 (length columns)) columns

-- a column of that name and, if a table is named, of that table
abbrev pub carries : Option (List ℕ) → List ℕ → ScopeColumn → Bool
carries None name column = bytes_eq column.name name
carries (Some table) name column = bytes_eq column.table table && bytes_eq column.name name

-- FROM has a table of that name
abbrev pub has_table : ScopeRule → List ℕ → Bool
has_table scope table = list_any (bytes_eq table) scope.tables

-- two scopes, the columns of the left one first
abbrev pub beside : ScopeRule → ScopeRule → ScopeRule
beside left right = record { tables = left.tables ++ right.tables; columns = left.columns ++ right.columns }

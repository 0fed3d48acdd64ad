-- Schemas as pure data, and how contracts see those of the code.
use Rattle.std.specs.Prelude.{ℕ, List, map, find, Option}
use Rattle.std.specs.Str.{bytes_eq}
use Rattle.wd_schema.specs.declared.schema.Schema.{Schema}
use Rattle.wd_schema.specs.Tables.{TableRule, table_of}

-- the tables of a schema, in order of declaration
abbrev pub schema_of : Schema → List TableRule
schema_of s = map (λ e. table_of e.1) s.tables.entries

-- the table of that name: the first one; a schema that was read has no second
abbrev pub table_named : List ℕ → List TableRule → Option TableRule
table_named name tables = find (λ table. bytes_eq name table.name) tables

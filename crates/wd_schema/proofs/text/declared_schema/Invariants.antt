use Rattle.std.proofs.Common.{◌≡◌, map, take}
use Rattle.std.specs.String.{string_bytes}
use Rattle.wd_schema.specs.declared.error.SchemaError.{SchemaError}
use Rattle.wd_schema.specs.Declares.{AllKeep, table_declared}
use Rattle.wd_schema.specs.Tables.{table_of}
use Rattle.wd_read_statements.specs.Written.{name_text, table_tree}
use Rattle.wd_schema.proofs.text.declared_schema.Given as goal

abbrev pub invariant-loop-t : goal.invariant-loop-t
invariant-loop-t l = record {
  tables : map (λ e. table_of e.1) l.schema.entries ≡ map table_declared (map table_tree (take l.t l.tables));
  names : map (λ e. string_bytes e.0) l.schema.entries ≡ map (λ table. name_text table.name) (map table_tree (take l.t l.tables));
  kept : (refusal : SchemaError) → AllKeep refusal (map table_tree (take l.t l.tables));
}

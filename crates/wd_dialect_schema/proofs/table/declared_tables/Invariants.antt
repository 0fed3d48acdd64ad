use Rattle.std.proofs.Common.{◌≡◌, ◌++◌, drop, map}
use Rattle.std.specs.List.{flat_map}
use Rattle.wd_declaration.specs.Spelled as spelled
use Rattle.wd_dialect_read.specs.Said.{statement_said}
use Rattle.wd_dialect_schema.specs.Meaning.{tables_by, tables_of}
use Rattle.wd_dialect_schema.proofs.table.declared_tables.Given as goal

abbrev pub invariant-loop-statement : goal.invariant-loop-statement
invariant-loop-statement l = spelled.tables_of l.tables.items ++ flat_map (tables_by (map statement_said l.statements)) (map statement_said (drop l.statement-index l.statements)) ≡ tables_of (map statement_said l.statements)

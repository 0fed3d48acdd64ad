use Rattle.std.proofs.Common.{◌≡◌, ◌++◌, drop, map}
use Rattle.std.specs.List.{flat_map}
use Rattle.wd_declaration.specs.Spelled.{element_of}
use Rattle.wd_dialect_read.specs.Said.{identifier_text, item_said, statement_said}
use Rattle.wd_dialect_schema.specs.Meaning.{added_by, elements_of}
use Rattle.wd_dialect_schema.proofs.table.table_elements.Given as goal

abbrev pub invariant-loop-statement : goal.invariant-loop-statement
invariant-loop-statement l = map element_of l.elements.items ++ flat_map (added_by (identifier_text l.name)) (map statement_said (drop l.statement-index l.statements))
    ≡ flat_map elements_of (map item_said l.items) ++ flat_map (added_by (identifier_text l.name)) (map statement_said l.statements)

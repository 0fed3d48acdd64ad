use Rattle.std.proofs.Common.{◌≡◌, ◌++◌, length, map}
use Rattle.wd_declaration.specs.Spelled.{element_of}
use Rattle.wd_dialect_read.specs.Said.{identifier_text}
use Rattle.wd_dialect_schema.specs.Meaning.{keys_of}
use Rattle.wd_dialect_schema.proofs.element.add_keys.Given as goal

abbrev pub invariant-loop-rest : goal.invariant-loop-rest
invariant-loop-rest l = map element_of l.elements.items ++ keys_of (identifier_text l.column.name) l.rest ≡ map element_of l.fn.elements.items ++ keys_of (identifier_text l.column.name) l.column.marks.items

abbrev pub decreases-loop-rest : goal.decreases-loop-rest
decreases-loop-rest l = length l.rest

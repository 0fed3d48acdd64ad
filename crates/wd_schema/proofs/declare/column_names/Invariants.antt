use Rattle.std.proofs.Common.{◌≡◌, ◌++◌, map, drop}
use Rattle.wd_schema.specs.Declares.{names_of}
use Rattle.wd_read_statements.specs.Written.{element_tree}
use Rattle.wd_schema.proofs.declare.column_names.Given as goal

abbrev pub invariant-loop-element : goal.invariant-loop-element
invariant-loop-element l = l.names.items ++ names_of (map element_tree (drop l.element-index l.elements)) ≡ names_of (map element_tree l.elements)

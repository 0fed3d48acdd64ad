use Rattle.std.proofs.Common.{◌≡◌, ◌++◌, drop, map}
use Rattle.wd_schema.specs.Declares.{column_declared, columns_of}
use Rattle.wd_schema.specs.Keys.{said}
use Rattle.wd_read_statements.specs.Written.{element_tree}
use Rattle.wd_schema.proofs.declare.declared_columns.Given as goal

abbrev pub invariant-loop-element : goal.invariant-loop-element
invariant-loop-element l = l.columns.items ++ map (column_declared (map said l.keys)) (columns_of (map element_tree (drop l.element-index l.elements))) ≡ map (column_declared (map said l.keys)) (columns_of (map element_tree l.elements))

use Rattle.std.proofs.Common.{◌≡◌, ◌++◌, map, drop}
use Rattle.wd_schema.specs.Declares.{keys_of}
use Rattle.wd_schema.specs.Keys.{said}
use Rattle.wd_read_statements.specs.Written.{element_tree}
use Rattle.wd_schema.proofs.declare.written_keys.Given as goal

abbrev pub invariant-loop-e : goal.invariant-loop-e
invariant-loop-e l = map said l.keys.items ++ keys_of (map element_tree (drop l.e l.elements)) ≡ keys_of (map element_tree l.elements)

use Rattle.std.proofs.Common.{◌≡◌, drop, map}
use Rattle.std.specs.List.{list_any}
use Rattle.wd_schema.specs.Declares.{columns_of, is_forbidden}
use Rattle.wd_schema.specs.Keys.{said}
use Rattle.wd_read_statements.specs.Written.{element_tree}
use Rattle.wd_schema.proofs.declare.forbidden_null.Given as goal

abbrev pub invariant-loop-e : goal.invariant-loop-e
invariant-loop-e l = list_any (is_forbidden (map said l.keys)) (columns_of (map element_tree (drop l.e l.elements))) ≡ list_any (is_forbidden (map said l.keys)) (columns_of (map element_tree l.elements))

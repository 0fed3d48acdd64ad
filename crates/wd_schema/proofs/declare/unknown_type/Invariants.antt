use Rattle.std.proofs.Common.{◌≡◌, drop, map}
use Rattle.std.specs.List.{list_all}
use Rattle.std.specs.Prelude.{is_some}
use Rattle.wd_schema.specs.Declares.{columns_of, type_named}
use Rattle.wd_read_statements.specs.Written.{element_tree, name_text}
use Rattle.wd_schema.proofs.declare.unknown_type.Given as goal

abbrev pub invariant-loop-e : goal.invariant-loop-e
invariant-loop-e l = list_all (λ column. is_some (type_named (name_text column.kind))) (columns_of (map element_tree (drop l.e l.elements))) ≡ list_all (λ column. is_some (type_named (name_text column.kind))) (columns_of (map element_tree l.elements))

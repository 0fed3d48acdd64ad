use Rattle.std.proofs.Common.{◌≡◌, ◌++◌, map, drop}
use Rattle.wd_schema.specs.Declares.{keys_of_rules}
use Rattle.wd_schema.specs.Keys.{said}
use Rattle.wd_read_statements.specs.Written.{name_text}
use Rattle.wd_schema.proofs.declare.add_column_keys.Given as goal

abbrev pub invariant-loop-r : goal.invariant-loop-r
invariant-loop-r l = map said l.keys.items ++ keys_of_rules (name_text l.column.name) (drop l.r l.column.rules.items) ≡ map said l.fn.keys.items ++ keys_of_rules (name_text l.column.name) l.column.rules.items

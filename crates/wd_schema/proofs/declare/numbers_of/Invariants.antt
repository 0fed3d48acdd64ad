use Rattle.std.proofs.Common.{◌≡◌, map, take}
use Rattle.wd_schema.specs.Declares.{column_number}
use Rattle.wd_schema.proofs.declare.numbers_of.Given as goal

abbrev pub invariant-loop-name : goal.invariant-loop-name
invariant-loop-name l = l.numbers.items ≡ map (column_number l.columns) (take l.name-index l.names)

use Rattle.std.proofs.Common.{◌≡◌, ◌+◌, drop}
use Rattle.wd_schema.specs.Declares.{column_number}
use Rattle.wd_schema.proofs.declare.column_number.Given as goal

abbrev pub invariant-loop-number : goal.invariant-loop-number
invariant-loop-number l = l.number + column_number (drop l.number l.columns) l.name ≡ column_number l.columns l.name

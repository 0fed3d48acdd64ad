use Rattle.std.proofs.Common.{◌≡◌, map, take}
use Rattle.wd_value.specs.Rows.{column_of}
use Rattle.wd_steps.proofs.map.copied_column.Given as goal

abbrev pub invariant-loop-position : goal.invariant-loop-position
invariant-loop-position l = l.values.items ≡ map (λ row. column_of row l.column) (take l.position l.rows)

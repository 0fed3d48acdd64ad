use Rattle.std.proofs.Common.{◌≡◌, map, take}
use Rattle.wd_value.specs.Rows.{column_of, rows_at}
use Rattle.wd_partition.specs.Members.{number_part}
use Rattle.wd_partition.proofs.groups.column_numbers.Given as goal

abbrev pub invariant-loop-position : goal.invariant-loop-position
invariant-loop-position l = l.numbers.items ≡ map (λ r. number_part (column_of r l.column)) (rows_at l.rows (take l.position-index l.positions))

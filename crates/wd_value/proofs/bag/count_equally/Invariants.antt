use Rattle.std.proofs.Common.{◌≡◌}
use Rattle.std.specs.List.{AllWithin}
use Rattle.wd_value.specs.Rows.{rows_of, same_row}
use Rattle.wd_value.specs.Bags.{times}
use Rattle.wd_value.proofs.bag.count_equally.Given as goal

abbrev pub invariant-loop-row : goal.invariant-loop-row
invariant-loop-row l = AllWithin (λ r. times same_row r.items (rows_of l.first) ≡ times same_row r.items (rows_of l.second)) l.rows 0 l.row-index

use Rattle.std.proofs.Common.{◌≡◌, map, None, slice_index_or}
use Rattle.std.specs.List.{range_with_len}
use Rattle.wd_value.specs.Rows.{rows_of}
use Rattle.wd_varied.specs.Patterns.{filling_of}
use Rattle.wd_varied.specs.Varied.{filled_row}
use Rattle.wd_varied.proofs.tables.filled_rows.Given as goal

abbrev pub invariant-loop-row : goal.invariant-loop-row
invariant-loop-row l = rows_of l.made.items ≡ map (filled_row (λ c. slice_index_or l.fixed c None) (map (filling_of l.suggested.all.items) l.fillings) l.rows) (range_with_len 0 l.row)

use Rattle.std.proofs.Common.{◌≡◌, map}
use Rattle.wd_value.specs.Bags.{positions}
use Rattle.wd_value.specs.Rows.{row_at}
use Rattle.wd_group.specs.Sets.{shown_in}
use Rattle.wd_group.proofs.row.shown_row.Given as goal

abbrev pub invariant-loop-column : goal.invariant-loop-column
invariant-loop-column l = l.shown.items ≡ map (shown_in l.set (row_at l.rows l.position)) (positions l.column)

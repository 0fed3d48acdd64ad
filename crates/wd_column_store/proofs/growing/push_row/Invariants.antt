use Rattle.std.proofs.Common.{◌≡◌, All, drop, length}
use Rattle.wd_value.specs.Rows.{rows_of}
use Rattle.wd_column_store.specs.Along.{with_row}
use Rattle.wd_column_store.specs.Room.{HasRoom}
use Rattle.wd_column_store.proofs.growing.push_row.Given as goal

abbrev pub invariant-loop-value : goal.invariant-loop-value
invariant-loop-value l = (l.place ≡ length l.yielded) × (rows_of l.columns.items ≡ with_row (rows_of l.fn.columns.items) l.yielded) × All HasRoom (drop l.place l.columns.items)

use Rattle.std.proofs.Common.{◌≡◌, ℕ, ◌<◌, ◌≤◌, take, length, get_or}
use Rattle.wd_value.specs.Rows.{row_at, rows_at, rows_of}
use Rattle.wd_column_store.proofs.moved.moved_rows.Given as goal

abbrev pub invariant-loop-i : goal.invariant-loop-i
invariant-loop-i l = record {
  picked : rows_of l.picked.items ≡ rows_at (rows_of l.fn.rows.items) (take l.i l.positions);
  left : (k : ℕ) → l.i ≤ k → k < length l.positions → row_at (rows_of l.left.items) (get_or l.positions k 0) ≡ row_at (rows_of l.fn.rows.items) (get_or l.positions k 0);
}

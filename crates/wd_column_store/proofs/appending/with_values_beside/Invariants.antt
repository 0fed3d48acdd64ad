use Rattle.std.proofs.Common.{◌≡◌, length}
use Rattle.std.specs.Vec.Iter.{into_iter_items, into_iter_len}
use Rattle.wd_value.specs.Rows.{rows_of}
use Rattle.wd_column_store.proofs.Beside.{AreLeft, ArePushed}
use Rattle.wd_column_store.proofs.appending.with_values_beside.Given as goal

abbrev pub invariant-loop-position : goal.invariant-loop-position
invariant-loop-position l = record {
  long : length l.rows.items ≡ length l.fn.rows.items;
  left : AreLeft l.fn.values.items l.position (into_iter_items l.left) (into_iter_len l.left);
  rows : ArePushed (rows_of l.fn.rows.items) l.fn.values.items l.position (rows_of l.rows.items);
}

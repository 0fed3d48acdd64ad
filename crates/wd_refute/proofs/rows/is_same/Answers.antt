use Rattle.wd_value.specs.Rows.{row_at}
use Rattle.wd_refute.proofs.RowOrder.{compare_rows-Decides}
use Rattle.wd_refute.proofs.rows.is_same.Goals as goal

pub returns : goal.returns
returns c = rw (c.is_eq.ensures, c.compare_rows.ensures) (compare_rows-Decides (row_at c.args.first.now c.args.p) (row_at c.args.second.now c.args.q))

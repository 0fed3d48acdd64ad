use Rattle.std.proofs.Common.{◌∙◌, sym, ap, length}
use Rattle.wd_value.specs.Rows.{rows_of}
use Rattle.wd_column_store.proofs.RowsAlong.{count}
use Rattle.wd_column_store.proofs.columns.Columns.len.Goals as goal

pub returns : goal.returns
returns c = sym (count (rows_of c.self.inside.columns.items) c.self.inside.count) ∙ ap length c.self.view_is

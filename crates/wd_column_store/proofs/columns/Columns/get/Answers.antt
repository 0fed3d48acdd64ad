use Rattle.std.proofs.Common.{◌∙◌, sym, ap}
use Rattle.wd_value.specs.Rows.{column_of, row_at, rows_of}
use Rattle.wd_column_store.specs.Along.{row_along}
use Rattle.wd_column_store.proofs.RowsAlong.{past_is, row_is}
use Rattle.wd_column_store.proofs.columns.Columns.get.Goals as goal

pub returns-then-position-self : goal.returns-then-position-self
returns-then-position-self c =
    sym (ap (λ row. column_of row c.args.column) ((λ i. row_at (sym c.self.view_is i) c.args.position) ∙ past_is (rows_of c.self.inside.columns.items) c.self.inside.count c.args.position c.if-position-self.true))

pub returns : goal.returns
returns c =
    c.value_along.ensures
    ∙ ap (λ columns. column_of (row_along (rows_of columns) c.args.position) c.args.column) c.deref.ensures.value
    ∙ sym (ap (λ row. column_of row c.args.column) ((λ i. row_at (sym c.self.view_is i) c.args.position) ∙ row_is (rows_of c.self.inside.columns.items) c.self.inside.count c.args.position c.if-position-self.false))

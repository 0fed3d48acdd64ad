use Rattle.std.proofs.Common.{◌∙◌, ap}
use Rattle.wd_value.specs.Rows.{rows_of}
use Rattle.wd_column_store.specs.Along.{rows_along, with_values}
use Rattle.wd_column_store.proofs.RowsAlong.{one_column_more}
use Rattle.wd_column_store.proofs.columns.Columns.with_column.Goals as goal

pub returns : goal.returns
returns c =
    let values = c.args.values.items in
    let n = c.self.inside.count in
    c.new.ensures ∙ ap (λ columns. rows_along columns n) c.in_ok-grown.ensures ∙ one_column_more (rows_of c.self.inside.columns.items) values n ∙ ap (λ rows. with_values rows values) c.self.view_is

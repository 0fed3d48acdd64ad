use Rattle.std.proofs.Common.{◌∙◌, ap, map}
use Rattle.wd_value.specs.Rows.{columns_of, rows_of}
use Rattle.wd_column_store.specs.Along.{rows_along}
use Rattle.wd_column_store.proofs.RowsAlong.{selected}
use Rattle.wd_column_store.proofs.columns.Columns.select.Goals as goal

pub returns : goal.returns
returns c =
    let places = c.args.columns.now in
    let n = c.self.inside.count in
    c.new.ensures ∙ ap (λ columns. rows_along columns n) c.in_ok-picked.ensures ∙ selected (rows_of c.self.inside.columns.items) places n ∙ ap (map (columns_of places)) c.self.view_is

use Rattle.std.proofs.Common.{◌∙◌, ap, map}
use Rattle.wd_value.specs.Rows.{columns_of}
use Rattle.wd_column_store.proofs.Copied.{even}
use Rattle.wd_joined.specs.Pairs.{rows_paired}
use Rattle.wd_join.proofs.paired.paired_rows.Goals as goal

pub returns-in_ok-columns-in-Some : goal.returns-in_ok-columns-in-Some
returns-in_ok-columns-in-Some c =
    let rows = rows_paired c.args.left.now c.args.right.now c.args.pairs.now in
    c.of_columns.ensures
    ∙ c.in_ok-columns-in-Some.ensures
    ∙ ap (λ columns. map (columns_of columns) rows) (c.deref.ensures.value ∙ c.in_ok-all-in-Some.ensures)
    ∙ even rows c.in-Some.width c.in-Some.ensures

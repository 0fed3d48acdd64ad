use Rattle.std.proofs.Common.{◌∙◌, ap}
use Rattle.wd_value.specs.Bags.{positions}
use Rattle.wd_value.specs.Rows.{rows_at}
use Rattle.wd_column_store.proofs.Copied.{all_rows}
use Rattle.wd_columns.proofs.copying.listed.Goals as goal

pub returns : goal.returns
returns c =
    let rows = c.args.rows.now in
    let all = c.deref.ensures.value ∙ c.in_ok-all.ensures ∙ ap positions c.len.ensures in
    c.in_ok-list.ensures ∙ (λ i. rows_at (c.of_joined.ensures i) (all i)) ∙ all_rows rows

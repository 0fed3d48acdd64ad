use Rattle.std.proofs.Common.{◌≡◌, ◌∙◌, IfOk, ap, subst}
use Rattle.wd_value.specs.Bags.{positions}
use Rattle.wd_value.specs.Rows.{rows_at}
use Rattle.wd_column_store.proofs.Copied.{all_rows}
use Rattle.wd_columns.proofs.copying.copy_all.Goals as goal

pub returns-in_ok-all-in-None : goal.returns-in_ok-all-in-None
returns-in_ok-all-in-None c =
    let rows = c.args.rows.now in
    let all = c.deref.ensures.value ∙ c.in_ok-all-in-None.ensures ∙ ap positions c.len.ensures in
    subst (λ there. IfOk c.copy_rows.result (λ r. r ≡ there)) (ap (rows_at rows) all ∙ all_rows rows) c.copy_rows.ensures

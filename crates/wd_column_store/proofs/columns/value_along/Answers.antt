use Rattle.std.proofs.Common.{◌∙◌, get_or, sym, ap}
use Rattle.wd_value.specs.declared.value.Value.TheVariants.{Null}
use Rattle.wd_value.specs.Rows.{rows_of}
use Rattle.wd_column_store.proofs.RowsAlong.{value_is}
use Rattle.wd_column_store.proofs.columns.value_along.Goals as goal

pub returns : goal.returns
returns c =
    c.value_in.ensures ∙ ap (λ column. get_or column c.args.position Null) c.column_in.ensures ∙ sym (value_is (rows_of c.args.columns.now) c.args.position c.args.column)

-- How contracts see the limits of rows.
use Rattle.wd_resolve_select.specs.declared.limits.RowLimit.{RowLimit as CodeRowLimit}
use Rattle.wd_resolve_select.specs.Sorting.{RowLimit}

abbrev pub row_limit_of : CodeRowLimit → RowLimit
row_limit_of row_limit = record { offset = row_limit.offset; count = row_limit.count; ties = row_limit.ties }

use Rattle.std.proofs.Common.{◌∙◌, ap, map, sym}
use Rattle.std.proofs.lemmas.List.{map_push}
use Rattle.wd_column_store.specs.Along.{with_values}
use Rattle.wd_eval.specs.Beside.{values_of, with_columns}
use Rattle.wd_eval.proofs.Beside.{beside_more, beside_none}
use Rattle.wd_eval.proofs.calls.with_columns.Goals as goal

pub loop-column-init : goal.loop-column-init
loop-column-init c = beside_none c.args.rows

pub loop-column-preserved : goal.loop-column-preserved
loop-column-preserved c =
    let column = c.in-Some.column in
    let done = c.loop-column.yielded in
    c.in_ok-extended.ensures ∙ ap (λ rs. with_values rs column.values.items) c.loop-column.invariant
    ∙ beside_more c.args.rows (map values_of done) column.values.items
    ∙ ap (with_columns c.args.rows) (sym (map_push values_of done column))

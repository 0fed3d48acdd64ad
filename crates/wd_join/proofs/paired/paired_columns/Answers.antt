use Rattle.std.proofs.lemmas.Grind.{common_steps}
use Rattle.std.proofs.Common.{◌∙◌, ◌≤◌, ap, length, map, arith}
use Rattle.std.proofs.lemmas.List.{length-map, take_all}
use Rattle.wd_column_store.specs.Along.{rows_along}
use Rattle.wd_column_store.proofs.Copied.{column_in, columns_along}
use Rattle.wd_joined.specs.Pairs.{row_paired, rows_paired}
use Rattle.wd_join.proofs.paired.paired_columns.Goals as goal

pub returns : goal.returns
returns c =
    let left = c.args.left.now in
    let right = c.args.right.now in
    let pairs = c.args.pairs.now in
    let columns = c.args.columns.now in
    let rows = rows_paired left right pairs in
    let all : length columns ≤ c.loop-column.column-index = omega arith in
    let picked = c.loop-column.invariant ∙ ap (map (column_in rows)) (take_all c.loop-column.column-index columns all) in
    c.new.ensures ∙ ap (λ cs. rows_along cs (length pairs)) picked ∙ columns_along rows columns (length pairs) (length-map pairs (row_paired left right))

pub loop-column-preserved : goal.loop-column-preserved
loop-column-preserved c = grind (arith, common_steps)

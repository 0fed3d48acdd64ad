use Rattle.std.proofs.Common.{◌≡◌, ◌∙◌, [], ◌∷◌, ◌++◌, ap, length, map, sym, arith}
use Rattle.std.proofs.lemmas.List.{length-map, map_push}
use Rattle.wd_value.specs.Bags.{positions}
use Rattle.wd_value.specs.Rows.{row_at, rows_at, rows_of}
use Rattle.wd_column_store.specs.Along.{rows_along}
use Rattle.wd_column_store.proofs.Copied.{column_in, even_along}
use Rattle.wd_column_store.proofs.Places.{items}
use Rattle.wd_column_store.proofs.Positions.{positions_push}
use Rattle.wd_columns.proofs.copying.copied_columns.Goals as goal

pub loop-column-preserved : goal.loop-column-preserved
loop-column-preserved c =
    let rows = rows_at c.args.rows.now c.args.positions.now in
    let n = c.loop-column.column in
    ap rows_of c.in_ok-push.ensures.items
    ∙ map_push items c.loop-column.columns.items c.in_ok-copied_column.field-0
    ∙ (λ i. c.loop-column.invariant i ++ c.in_ok-copied_column.ensures i ∷ [])
    ∙ sym (ap (map (column_in rows)) (positions_push n) ∙ map_push (column_in rows) (positions n) n)

pub returns : goal.returns
returns c =
    let rows = rows_at c.args.rows.now c.args.positions.now in
    let n = length c.args.positions.now in
    let last : c.loop-column.column ≡ c.args.width = omega arith in
    c.new.ensures
    ∙ ap (λ cs. rows_along cs n) (c.loop-column.invariant ∙ ap (λ w. map (column_in rows) (positions w)) last)
    ∙ even_along rows c.args.width n c.requires (length-map c.args.positions.now (row_at c.args.rows.now))

use Rattle.std.proofs.Common.{◌≡◌, ◌∙◌, ◌<◌, [], length, get_or, sym, ap, arith}
use Rattle.std.proofs.lemmas.List.{get_or-map}
use Rattle.wd_value.specs.declared.value.Value.TheVariants.{Null}
use Rattle.wd_value.specs.Rows.{row_at, rows_of}
use Rattle.wd_column_store.proofs.Places.{items, others}
use Rattle.wd_column_store.proofs.RowsAlong.{row_kept}
use Rattle.wd_column_store.proofs.taking.take_value_at.Goals as goal

pub returns-clause-others : goal.returns-clause-others
returns-clause-others c p apart =
    let columns = c.args.columns.now.items in
    let old = c.index_mut.result.now in
    let within : c.args.place < length columns = omega arith in
    let before : row_at (rows_of columns) c.args.place ≡ old.items = get_or-map items columns c.args.place old [] within ∙ ap items (sym c.index_mut.ensures.value) in
    row_kept columns c.args.place p c.take_value.new.column (c.take_value.ensures.others p apart ∙ sym (ap (λ column. get_or column p Null) before))

pub returns-clause-after : goal.returns-clause-after
returns-clause-after c k high = others c.args.columns.now.items c.args.place k c.take_value.new.column (λ e. omega arith)

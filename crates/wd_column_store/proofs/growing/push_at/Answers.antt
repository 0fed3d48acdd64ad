use Rattle.std.proofs.Common.{◌≡◌, ◌∙◌, [], ◌∷◌, ◌++◌, set, sym, ap, arith}
use Rattle.std.proofs.lemmas.List.{get_or-map, map-set}
use Rattle.wd_value.specs.Rows.{row_at, rows_of}
use Rattle.wd_column_store.proofs.Places.{items}
use Rattle.wd_column_store.proofs.Rooms.{after}
use Rattle.wd_column_store.proofs.growing.push_at.Goals as goal

pub returns-then-place-len-clause-within : goal.returns-then-place-len-clause-within
returns-then-place-len-clause-within c within =
    let columns = c.args.columns.now.items in
    let old = c.index_mut.result.now in
    let before : row_at (rows_of columns) c.args.place ≡ old.items = get_or-map items columns c.args.place old [] within ∙ ap items (sym c.index_mut.ensures.value) in
    map-set items columns c.args.place c.push_value.new.column ∙ ap (set (rows_of columns) c.args.place) (c.push_value.ensures ∙ ap (λ column. column ++ c.args.value ∷ []) (sym before))

pub returns-then-place-len-clause-room : goal.returns-then-place-len-clause-room
returns-then-place-len-clause-room c = after c.args.columns.now.items c.args.place c.push_value.new.column (omega arith) c.requires

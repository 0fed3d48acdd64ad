use Rattle.std.proofs.Common.{◌≡◌, ◌∙◌, ap, length, sym, subst}
use Rattle.wd_value.specs.Rows.{rows_at, rows_of}
use Rattle.wd_column_store.specs.Along.{rows_along}
use Rattle.wd_column_store.specs.Moves.{AreWithin}
use Rattle.wd_column_store.proofs.RowsAlong.{count, picked_rows}
use Rattle.wd_column_store.proofs.columns.Columns.pick.Goals as goal

pub returns : goal.returns
returns c =
    let ps = c.args.positions.now in
    let columns = rows_of c.self.inside.columns.items in
    let n = c.self.inside.count in
    let long : length c.args.self ≡ n = ap length (sym c.self.view_is) ∙ count columns n in
    c.new.ensures
    ∙ (λ i. rows_along (c.in_ok-picked.ensures i) (length ps))
    ∙ picked_rows columns n ps (subst (λ m. AreWithin m ps) long c.requires.within)
    ∙ ap (λ rows. rows_at rows ps) c.self.view_is

use Rattle.std.proofs.Common.{◌≡◌, ◌∙◌, length, sym, ap, rules}
use Rattle.std.proofs.lemmas.List.{length-map}
use Rattle.wd_value.specs.Rows.{row_at, rows_of}
use Rattle.wd_column_store.proofs.RowsAlong.{at, past_is, row_is}
use Rattle.wd_column_store.proofs.Places.{items}
use Rattle.wd_column_store.proofs.columns.Columns.width.Goals as goal

pub returns-then-position-self : goal.returns-then-position-self
returns-then-position-self c =
    sym (ap length ((λ i. row_at (sym c.self.view_is i) c.args.position) ∙ past_is (rows_of c.self.inside.columns.items) c.self.inside.count c.args.position c.if-position-self.true))

pub returns : goal.returns
returns c =
    let wide : c.len.result ≡ length c.self.inside.columns.items = search rules in
    wide
    ∙ sym (length-map c.self.inside.columns.items items)
    ∙ sym (length-map (rows_of c.self.inside.columns.items) (at c.args.position))
    ∙ sym (ap length ((λ i. row_at (sym c.self.view_is i) c.args.position) ∙ row_is (rows_of c.self.inside.columns.items) c.self.inside.count c.args.position c.if-position-self.false))

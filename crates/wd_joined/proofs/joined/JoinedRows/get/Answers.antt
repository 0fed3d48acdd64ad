use Rattle.std.proofs.Common.{◌∙◌, None, get_or, sym, ap}
use Rattle.wd_value.specs.Rows.{column_of, row_at}
use Rattle.wd_joined.specs.Joined.{value_in}
use Rattle.wd_joined.proofs.Joining.{past_is, row_is, value_is}
use Rattle.wd_joined.proofs.joined.JoinedRows.get.Goals as goal

pub returns-then-position-self : goal.returns-then-position-self
returns-then-position-self c =
    let j = c.self.inside in
    sym (ap (λ row. column_of row c.args.column) ((λ i. row_at (sym c.self.view_is i) c.args.position) ∙ past_is j.tables.items j.positions.items j.origins.items j.count c.args.position c.if-position-self.true))

pub returns : goal.returns
returns c =
    let j = c.self.inside in
    let lists = j.positions.items in
    c.value_along.ensures
    ∙ (λ i. value_in (c.deref.ensures.value i) (c.deref-2.ensures.value i) c.args.position (get_or (c.deref-3.ensures.value i) c.args.column None))
    ∙ sym (value_is j.tables.items lists j.origins.items c.args.position c.args.column)
    ∙ sym (ap (λ row. column_of row c.args.column) ((λ i. row_at (sym c.self.view_is i) c.args.position) ∙ row_is j.tables.items lists j.origins.items j.count c.args.position c.if-position-self.false))

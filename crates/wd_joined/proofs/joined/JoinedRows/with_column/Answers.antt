use Rattle.std.proofs.Common.{◌≡◌, ◌∙◌, ◌<◌, ap, get_or, length, subst, sym}
use Rattle.std.proofs.lemmas.Result.{IfOk-weaker}
use Rattle.wd_value.specs.Rows.{column_of, row_at}
use Rattle.wd_joined.proofs.Joining.{count, own_value}
use Rattle.wd_joined.proofs.joined.JoinedRows.with_column.Goals as goal

pub returns : goal.returns
returns c = IfOk-weaker c.with_shared.result _ _ (λ j is. is c.args.values.items (λ p low. (
    let j = c.self.inside in
    let values = c.args.values.items in
    let long : length c.args.self ≡ j.count = ap length (sym c.self.view_is) ∙ count j.tables.items j.positions.items j.origins.items j.count in
    (λ i. column_of (row_at (c.in_ok-table.ensures i) (get_or (c.in_ok-positions.ensures i) p 0)) 0)
    ∙ own_value values j.count p (subst (λ n. p < n) long low)))) c.with_shared.ensures

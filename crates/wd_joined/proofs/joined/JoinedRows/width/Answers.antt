use Rattle.std.proofs.Common.{◌≡◌, ◌∙◌, length, sym, ap, rules}
use Rattle.std.proofs.lemmas.List.{length-map}
use Rattle.wd_value.specs.Rows.{row_at}
use Rattle.wd_joined.specs.Joined.{value_in}
use Rattle.wd_joined.proofs.Joining.{past_is, row_is}
use Rattle.wd_joined.proofs.joined.JoinedRows.width.Goals as goal

pub returns-then-position-self : goal.returns-then-position-self
returns-then-position-self c =
    let j = c.self.inside in
    sym (ap length ((λ i. row_at (sym c.self.view_is i) c.args.position) ∙ past_is j.tables.items j.positions.items j.origins.items j.count c.args.position c.if-position-self.true))

pub returns : goal.returns
returns c =
    let j = c.self.inside in
    let wide : c.len.result ≡ length j.origins.items = search rules in
    wide
    ∙ sym (length-map j.origins.items (value_in j.tables.items j.positions.items c.args.position))
    ∙ sym (ap length ((λ i. row_at (sym c.self.view_is i) c.args.position) ∙ row_is j.tables.items j.positions.items j.origins.items j.count c.args.position c.if-position-self.false))

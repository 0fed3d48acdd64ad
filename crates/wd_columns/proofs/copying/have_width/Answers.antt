use Rattle.std.proofs.Common.{◌≡◌, All, length, rules}
use Rattle.std.proofs.lemmas.List.Elements.{All-map}
use Rattle.wd_value.specs.Rows.{row_at}
use Rattle.wd_columns.proofs.copying.have_width.Goals as goal

pub returns : goal.returns
returns c same =
    let rows = c.args.rows.now in
    let each : All (λ p. length (row_at rows p) ≡ c.args.width) c.args.positions.now = search rules in
    All-map (λ row. length row ≡ c.args.width) (row_at rows) c.args.positions.now each

use Rattle.std.proofs.Common.{◌∙◌, [], ◌∷◌, ap, length, map, sym, subst}
use Rattle.wd_value.specs.Bags.{positions}
use Rattle.wd_joined.specs.Joined.{AreOfTables, rows_joined}
use Rattle.wd_joined.proofs.Joining.{of_table, own, own_within}
use Rattle.wd_joined.proofs.joined.JoinedRows.of_columns.Goals as goal

pub returns : goal.returns
returns c =
    let n = c.len-count.result in
    (λ i. rows_joined (c.in_ok-tables.ensures i) (c.in_ok-positions.ensures i) (c.in_ok-origins.ensures i) n)
    ∙ (λ i. rows_joined (c.in_ok-new.ensures i ∷ []) (c.in_ok-first_positions.ensures i ∷ []) (map own (positions c.column_count.result)) n)
    ∙ of_table c.args.columns n c.column_count.result (sym c.len-count.ensures) c.column_count.ensures

pub invariant_of-result : goal.invariant_of-result
invariant_of-result c =
    let lists = c.in_ok-positions.positions.items in
    let width = c.column_count.result in
    let one = ap length c.in_ok-positions.ensures in
    subst (λ origins. AreOfTables c.in_ok-tables.tables.items lists origins) (sym c.in_ok-origins.ensures)
    (subst (λ tables. AreOfTables tables lists (map own (positions width))) (sym c.in_ok-tables.ensures) (own_within c.in_ok-new.field-0 lists width one))

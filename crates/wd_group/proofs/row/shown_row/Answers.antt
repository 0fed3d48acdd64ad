use Rattle.std.proofs.lemmas.Grind.{common_steps}
use Rattle.std.proofs.Common.{◌∙◌, ◌++◌, ◌∷◌, [], zero-add, sym, arith}
use Rattle.std.proofs.lemmas.List.FromFn.{map-range_with_len_more}
use Rattle.wd_value.specs.Rows.{row_at}
use Rattle.wd_group.specs.Sets.{shown_in}
use Rattle.wd_group.proofs.row.shown_row.Goals as goal

pub loop-column-preserved : goal.loop-column-preserved
loop-column-preserved c =
    let column = c.loop-column.column in
    c.in_ok-push.ensures.items
    ∙ (λ i. c.loop-column.invariant i ++ c.in_ok-value.ensures i ∷ [])
    ∙ sym (map-range_with_len_more (shown_in c.args.set.now (row_at c.args.rows.now c.args.position)) 0 column column (zero-add column))

pub returns : goal.returns
returns c = grind (arith, common_steps)

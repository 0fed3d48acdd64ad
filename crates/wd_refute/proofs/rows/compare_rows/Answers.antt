use Rattle.std.proofs.Common.{sym, ◌∙◌, arith, nat_cmp}
use Rattle.wd_value.specs.Rows.{row_at}
use Rattle.wd_refute.proofs.RowOrder.{compare_rows-end}
use Rattle.wd_refute.proofs.rows.compare_rows.Goals as goal

pub returns : goal.returns
returns c =
    let a = row_at c.args.first.now c.args.p in
    let b = row_at c.args.second.now c.args.q in
    c.cmp.ensures
    ∙ (λ i. nat_cmp (c.width-width.ensures i) (c.width-other_width.ensures i))
    ∙ sym (compare_rows-end a b c.loop-i.i (let first = c.width-width.ensures in let second = c.width-other_width.ensures in omega arith))
    ∙ c.loop-i.invariant

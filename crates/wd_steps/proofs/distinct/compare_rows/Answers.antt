use Rattle.std.proofs.lemmas.Grind.{common_steps}
use Rattle.std.proofs.Common.{◌≡◌, ◌∙◌, sym, min, length, arith}
use Rattle.std.specs.Ordering.{nat_cmp}
use Rattle.wd_value.specs.Rows.{row_at}
use Rattle.wd_steps.proofs.Occurrences.{compare_rest}
use Rattle.wd_steps.proofs.distinct.compare_rows.Goals as goal

pub returns : goal.returns
returns c =
    let a = row_at c.args.rows.now c.args.p in
    let b = row_at c.args.rows.now c.args.q in
    let all : c.loop-i.i ≡ min (length a) (length b) = omega arith in
    c.cmp.ensures ∙ (λ i. nat_cmp (c.width-wide.ensures i) (c.width-other.ensures i)) ∙ sym (compare_rest a b c.loop-i.i all) ∙ c.loop-i.invariant

pub loop-i-preserved : goal.loop-i-preserved
loop-i-preserved c = grind (arith, common_steps)

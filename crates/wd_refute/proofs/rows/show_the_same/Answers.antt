use Rattle.std.proofs.Common.{◌∙◌, sym, refl, arith}
use Rattle.std.proofs.lemmas.Bool.{false≢true}
use Rattle.wd_refute.proofs.RowsAt.{rows_at-places}
use Rattle.wd_refute.proofs.rows.show_the_same.Goals as goal

pub returns-then-not-is_same : goal.returns-then-not-is_same
returns-then-not-is_same c =
    let places = rows_at-places c.args.first.now c.args.second.now c.args.first_order.now c.args.second_order.now c.if-first_order-second_order.false in (
      λ h. absurd (false≢true h),
      λ e. absurd (false≢true (sym c.if-not-is_same.true ∙ c.is_same.ensures.1 (places.0 e c.loop-i.i (omega arith)))),
    )

pub returns : goal.returns
returns c =
    let places = rows_at-places c.args.first.now c.args.second.now c.args.first_order.now c.args.second_order.now c.if-first_order-second_order.false in
    (λ _. places.1 (λ k l. c.loop-i.invariant k (omega arith)), λ _. refl)

use Rattle.std.proofs.Common.{◌∙◌, sym, arith}
use Rattle.wd_schema.specs.Tables.{key_of}
use Rattle.wd_tables.proofs.KeyFacts.{none_within, within_all, within_more, within_same}
use Rattle.wd_tables.proofs.key.first_violation.Goals as goal
use Rattle.wd_tables.proofs.key.first_violation.Goals.{then-violates, else-violates}

pub loop-i-init : goal.loop-i-init
loop-i-init c = (omega arith, none_within (key_of c.args.key.now) c.args.rows.now c.args.order.now)

pub loop-i-preserved : goal.loop-i-preserved
loop-i-preserved c =
    let key = key_of c.args.key.now in
    let rows = c.args.rows.now in
    let order = c.args.order.now in
    let test = c.violates.ensures in (
      omega arith,
      elim c.if-violates.branch [
        | then-violates w ↦ rw (w.first-is, w.least-first.ensures) (within_more key rows order c.loop-i.i c.loop-i.first c.loop-i.auto.i (sym test ∙ w.if-violates.true) c.loop-i.invariant.1)
        | else-violates w ↦ rw w.first-is (within_same key rows order c.loop-i.i c.loop-i.first c.loop-i.auto.i (sym test ∙ w.if-violates.false) c.loop-i.invariant.1)
      ],
    )

pub returns : goal.returns
returns c = within_all (key_of c.args.key.now) c.args.rows.now c.args.order.now c.loop-i.i c.loop-i.first c.loop-i-test.false c.loop-i.auto.i-end c.loop-i.invariant.0 c.loop-i.invariant.1

use Rattle.std.proofs.Common.{arith}
use Rattle.wd_keys.proofs.Putting.{placed}
use Rattle.wd_keys.proofs.change.apply_changes.Goals.{then-at-start-via-then-at-start, then-at-start-via-else-at-start+then-end-at, then-at-start-via-else-at-start+else-end-at+then-end-text}
use Rattle.wd_keys.proofs.change.apply_changes.Goals as goal

pub returns-then-at-start-clause-wrong : goal.returns-then-at-start-clause-wrong
returns-then-at-start-clause-wrong c = λ ordered.
    let p = placed c.args.text.now c.args.changes.now c.loop-change.start c.loop-change.change-index c.change-item.result c.loop-change-test.true c.change-item.is (c.loop-change.invariant.rest_ordered ordered) in
    elim c.then-at-start.branch [
      | then-at-start-via-then-at-start w ↦ omega (arith, p.0)
      | then-at-start-via-else-at-start+then-end-at w ↦ omega (arith, p.1)
      | then-at-start-via-else-at-start+else-end-at+then-end-text w ↦ omega (arith, p.2)
    ]

use Rattle.std.proofs.Common.{◌∙◌, ap, subst, sym}
use Rattle.wd_plan.specs.Expressions.{expression_of}
use Rattle.wd_plan.specs.Outcomes.{pairs}
use Rattle.wd_join.specs.Joins.{AreEnough}
use Rattle.wd_join.specs.Matching.{AreSkippable, matching}
use Rattle.wd_join.proofs.Agreeing.{AreEnough-matching}
use Rattle.wd_join.proofs.narrow.narrow_pairs.Goals as goal

pub returns-in-Ok : goal.returns-in-Ok
returns-in-Ok c =
    let e = expression_of c.args.condition.now in
    let left = c.args.left.now in
    let right = c.args.right.now in
    let skips : AreSkippable e c.in_ok-columns.columns.items left right = c.in_ok-columns.ensures in
    let found = c.in-Ok.ensures.pairs ∙ ap (λ columns. matching columns left right) c.deref.ensures.value in
    subst (AreEnough e (pairs left right)) (sym found) (AreEnough-matching e c.in_ok-columns.columns.items left right skips)

use Rattle.std.proofs.Common.{◌∙◌, arith}
use Rattle.wd_eval.proofs.class_turn.are_before.Goals as goal

pub returns : goal.returns
returns c = λ is p low. (
    let long = c.if-values-len.false ∙ c.len.ensures in
    c.loop-position.invariant p (omega (arith, c.loop-position-test.false)))

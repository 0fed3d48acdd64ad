use Rattle.std.proofs.Common.{[], arith, rules}
use Rattle.std.proofs.lemmas.List.{ext_get_or}
use Rattle.wd_trail.proofs.step.are_same.Goals as goal

pub returns : goal.returns
returns c = λ true. ext_get_or [] c.args.rows.now c.args.others.now (search rules) (λ p h. c.loop-position.invariant p (omega arith))

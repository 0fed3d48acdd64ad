use Rattle.std.proofs.Common.{arith}
use Rattle.std.proofs.lemmas.Grind.{common_steps}
use Rattle.std.proofs.lemmas.List.FromFn.{map-range_with_len_more}
use Rattle.wd_plan.specs.Expressions.{Column}
use Rattle.wd_resolve_select.proofs.steps.first_columns.Goals as goal

pub loop-number-preserved : goal.loop-number-preserved
loop-number-preserved c =
    let more = map-range_with_len_more Column 0 c.loop-number.number c.loop-number.number (omega arith) in
    grind (arith, common_steps, more)

pub returns : goal.returns
returns c = grind (arith, common_steps)

use Rattle.std.proofs.Common.{arith}
use Rattle.std.proofs.lemmas.Grind.{common_steps}
use Rattle.wd_resolve_list.proofs.Among.{found_at, found_none}
use Rattle.wd_resolve_select.proofs.sorting.first_named.Goals as goal

pub loop-number-preserved : goal.loop-number-preserved
loop-number-preserved c = grind (arith, common_steps, found_at, found_none)

pub returns : goal.returns
returns c = grind (arith, common_steps, found_at, found_none)

use Rattle.std.proofs.Common.{arith}
use Rattle.std.proofs.lemmas.Grind.{common_steps}
use Rattle.wd_verify.proofs.NamedTraces.{any_named}
use Rattle.wd_verify.proofs.named.traces_to_keep.Goals as goal

pub returns : goal.returns
returns c = grind (arith, common_steps, any_named)

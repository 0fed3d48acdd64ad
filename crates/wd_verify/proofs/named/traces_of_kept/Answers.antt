use Rattle.std.proofs.Common.{arith}
use Rattle.std.proofs.lemmas.Grind.{common_steps}
use Rattle.wd_verify.proofs.NamedTraces.{lean_named, or_later}
use Rattle.wd_verify.proofs.named.traces_of_kept.Goals as goal

pub returns : goal.returns
returns c = grind (arith, common_steps, lean_named, or_later)

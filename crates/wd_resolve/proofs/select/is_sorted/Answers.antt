use Rattle.std.proofs.Common.{arith}
use Rattle.wd_resolve.proofs.SomeKeys.{some_keys}
use Rattle.wd_resolve.proofs.select.is_sorted.Goals as goal

pub returns-in_default : goal.returns-in_default
returns-in_default c = some_keys c.args.keys.now (omega arith)

use Rattle.wd_calls.proofs.FrameCalls.{IfOk-on}
use Rattle.wd_calls.proofs.call.put_values.Goals as goal

pub returns : goal.returns
returns c = IfOk-on c.put_from.result c.put_from.ensures (λ v puts. puts c.args.call.now.frame c.args.call.now.function c.in_ok-source.ensures)

use Rattle.std.proofs.Common.{◌≡◌, take}
use Rattle.wd_lighter.proofs.copied.copied_calls.Given as goal

abbrev pub invariant-loop-call : goal.invariant-loop-call
invariant-loop-call l = l.copied.items ≡ take l.call-index l.calls

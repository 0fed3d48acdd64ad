use Rattle.std.proofs.Common.{◌≡◌, ◌++◌}
use Rattle.wd_simpler.proofs.keyed.complete_keys.Given as goal

abbrev pub invariant-loop-key : goal.invariant-loop-key
invariant-loop-key l = l.keys.items ≡ l.fn.keys.items ++ l.yielded

use Rattle.std.proofs.Common.{◌≡◌, map}
use Rattle.wd_simpler.specs.Simpler.{count_of}
use Rattle.wd_simpler.proofs.plan.counts_of.Given as goal

abbrev pub invariant-loop-call : goal.invariant-loop-call
invariant-loop-call l = l.counts.items ≡ map count_of l.yielded

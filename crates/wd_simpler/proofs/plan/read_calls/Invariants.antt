use Rattle.std.proofs.Common.{◌≡◌, ◌+◌, length}
use Rattle.wd_simpler.specs.Sets.{read_of}
use Rattle.wd_simpler.specs.Simpler.{after, read_calls}
use Rattle.wd_simpler.proofs.plan.read_calls.Given as goal

abbrev pub invariant-loop-call : goal.invariant-loop-call
invariant-loop-call l = (l.number ≡ l.columns + length l.yielded) × (l.kept.items ≡ read_calls (after l.columns (read_of l.read)) l.yielded)

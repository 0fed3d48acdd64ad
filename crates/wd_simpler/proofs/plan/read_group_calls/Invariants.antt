use Rattle.std.proofs.Common.{◌≡◌, ◌+◌, length, map}
use Rattle.wd_plan.specs.Plans.{group_call_of}
use Rattle.wd_simpler.specs.Sets.{read_of}
use Rattle.wd_simpler.specs.Simpler.{after, read_group_calls}
use Rattle.wd_simpler.proofs.plan.read_group_calls.Given as goal

abbrev pub invariant-loop-call : goal.invariant-loop-call
invariant-loop-call l = (l.number ≡ l.columns + length l.yielded) × (map group_call_of l.kept.items ≡ read_group_calls (after l.columns (read_of l.read)) (map group_call_of l.yielded))

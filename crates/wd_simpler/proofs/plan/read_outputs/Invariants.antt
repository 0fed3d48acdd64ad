use Rattle.std.proofs.Common.{◌≡◌, length, map}
use Rattle.wd_plan.specs.Expressions.{expression_of}
use Rattle.wd_simpler.specs.Sets.{read_of}
use Rattle.wd_simpler.specs.Simpler.{read_outputs}
use Rattle.wd_simpler.proofs.plan.read_outputs.Given as goal

abbrev pub invariant-loop-output : goal.invariant-loop-output
invariant-loop-output l = (l.number ≡ length l.yielded) × (map expression_of l.kept.items ≡ read_outputs (read_of l.read) (map expression_of l.yielded))

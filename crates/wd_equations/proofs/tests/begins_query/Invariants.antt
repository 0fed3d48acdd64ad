use Rattle.std.proofs.Common.{◌≡◌, length}
use Rattle.wd_equations.specs.Tests.{begins_query}
use Rattle.wd_equations.proofs.tests.begins_query.Given as goal

abbrev pub invariant-loop-rest : goal.invariant-loop-rest
invariant-loop-rest l = begins_query l.rest ≡ begins_query l.fn.tokens

abbrev pub decreases-loop-rest : goal.decreases-loop-rest
decreases-loop-rest l = length l.rest

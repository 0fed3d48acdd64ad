use Rattle.std.proofs.Common.{◌≡◌, length}
use Rattle.wd_distinct_on.specs.Keys.{strip}
use Rattle.wd_distinct_on.proofs.key.strip.Given as goal

abbrev pub invariant-loop-left : goal.invariant-loop-left
invariant-loop-left l = strip l.left l.rest ≡ strip l.fn.value l.fn.tokens

abbrev pub decreases-loop-left : goal.decreases-loop-left
decreases-loop-left l = length l.left

use Rattle.std.proofs.Common.{◌≡◌, ◌≤◌, ◌++◌, length}
use Rattle.wd_moments.specs.Given.{most_tokens}
use Rattle.wd_moments.proofs.write.push_copies.Given as goal

abbrev pub invariant-loop-rest : goal.invariant-loop-rest
invariant-loop-rest l = record {
  copied : l.out.items ++ l.rest ≡ l.initial.out.items ++ l.fn.tokens;
  within : length l.out.items ≤ most_tokens;
}

abbrev pub decreases-loop-rest : goal.decreases-loop-rest
decreases-loop-rest l = length l.rest

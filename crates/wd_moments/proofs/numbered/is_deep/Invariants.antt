use Rattle.std.proofs.Common.{◌≡◌, ◌≤◌, length}
use Rattle.wd_moments.specs.Numbered.{is_deep}
use Rattle.wd_moments.proofs.numbered.is_deep.Given as goal

abbrev pub invariant-loop-rest : goal.invariant-loop-rest
invariant-loop-rest l = record {
  deep : is_deep l.depth l.rest ≡ is_deep 0 l.fn.tokens;
  shallow : l.depth ≤ 65;
}

abbrev pub decreases-loop-rest : goal.decreases-loop-rest
decreases-loop-rest l = length l.rest

use Rattle.std.proofs.Common.{◌≡◌, ◌+◌, ◌≤◌, false, length}
use Rattle.wd_units.specs.Tokens.{part_from}
use Rattle.wd_units.proofs.token.part_length.Given as goal

abbrev pub invariant-loop-rest : goal.invariant-loop-rest
invariant-loop-rest l = record {
  part : part_from l.stop l.count l.depth l.is_factor l.rest ≡ part_from l.stop 0 0 false l.fn.tokens;
  counted : l.count + length l.rest ≡ length l.fn.tokens;
  shallow : l.depth ≤ l.count;
}

abbrev pub decreases-loop-rest : goal.decreases-loop-rest
decreases-loop-rest l = length l.rest

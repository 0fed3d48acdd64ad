use Rattle.std.proofs.Common.{◌≡◌, ◌+◌, ◌≤◌, length}
use Rattle.wd_operands.specs.Nests.{nest_from, nest_length}
use Rattle.wd_operands.specs.Opened.{open_in}
use Rattle.wd_operands.proofs.nest.nest_length.Given as goal

abbrev pub invariant-loop-rest : goal.invariant-loop-rest
invariant-loop-rest l = record {
  nest : nest_from l.length (open_in l.unclosed) l.rest ≡ nest_length l.fn.tokens;
  counted : l.length + length l.rest ≡ length l.fn.tokens;
  within : l.unclosed.count ≤ 64;
}

abbrev pub decreases-loop-rest : goal.decreases-loop-rest
decreases-loop-rest l = length l.rest

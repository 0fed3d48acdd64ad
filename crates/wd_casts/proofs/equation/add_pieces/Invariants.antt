use Rattle.std.proofs.Common.{◌≡◌, ◌++◌, length}
use Rattle.wd_casts.specs.Equations.{pieces_tokens}
use Rattle.wd_casts.proofs.equation.add_pieces.Given as goal

abbrev pub invariant-loop-rest : goal.invariant-loop-rest
invariant-loop-rest l = l.written.items ++ pieces_tokens l.at l.operand l.rest ≡ l.initial.written.items ++ pieces_tokens l.at l.operand l.fn.pieces

abbrev pub decreases-loop-rest : goal.decreases-loop-rest
decreases-loop-rest l = length l.rest

use Rattle.std.proofs.Common.{◌≡◌, length, map}
use Rattle.wd_grouping.specs.Replaced.{operand_of}
use Rattle.wd_grouping.specs.Named.{group_key}
use Rattle.wd_grouping.proofs.replace.operand_of.Given as goal

abbrev pub invariant-loop-left : goal.invariant-loop-left
invariant-loop-left l = operand_of (map group_key l.left) l.fn.tokens ≡ operand_of (map group_key l.fn.keys) l.fn.tokens

abbrev pub decreases-loop-left : goal.decreases-loop-left
decreases-loop-left l = length l.left

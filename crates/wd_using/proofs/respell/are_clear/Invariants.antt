use Rattle.std.proofs.Common.{◌≡◌, length, map}
use Rattle.wd_using.specs.Named.{merged_column}
use Rattle.wd_using.specs.Respelled.{are_clear}
use Rattle.wd_using.proofs.respell.are_clear.Given as goal

abbrev pub invariant-loop-rest : goal.invariant-loop-rest
invariant-loop-rest l = are_clear (map merged_column l.fn.merged) l.last l.rest ≡ are_clear (map merged_column l.fn.merged) l.fn.before l.fn.tokens

abbrev pub decreases-loop-rest : goal.decreases-loop-rest
decreases-loop-rest l = length l.rest

use Rattle.std.proofs.Common.{◌≡◌, false, length}
use Rattle.wd_amounts.specs.Names.{has_lists}
use Rattle.wd_amounts.proofs.names.has_lists.Given as goal

abbrev pub invariant-loop-rest : goal.invariant-loop-rest
invariant-loop-rest l = has_lists l.is_alias l.rest ≡ has_lists false l.fn.tokens

abbrev pub decreases-loop-rest : goal.decreases-loop-rest
decreases-loop-rest l = length l.rest

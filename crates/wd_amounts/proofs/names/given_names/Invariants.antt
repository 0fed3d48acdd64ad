use Rattle.std.proofs.Common.{◌≡◌, ◌++◌, false, length, map}
use Rattle.wd_amounts.specs.Names.{given_names}
use Rattle.wd_amounts.proofs.names.given_names.Given as goal

abbrev pub invariant-loop-rest : goal.invariant-loop-rest
invariant-loop-rest l = map (λ n. n.now) l.found.items ++ given_names l.is_alias l.rest ≡ given_names false l.fn.tokens

abbrev pub decreases-loop-rest : goal.decreases-loop-rest
decreases-loop-rest l = length l.rest

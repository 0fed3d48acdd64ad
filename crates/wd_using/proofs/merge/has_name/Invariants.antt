use Rattle.std.proofs.Common.{◌≡◌, length, map}
use Rattle.wd_using.specs.Merged.{has_name}
use Rattle.wd_using.proofs.merge.has_name.Given as goal

abbrev pub invariant-loop-names : goal.invariant-loop-names
invariant-loop-names l = has_name l.name (map (λ other. other.now) l.names) ≡ has_name l.name (map (λ other. other.now) l.initial.names)

abbrev pub decreases-loop-names : goal.decreases-loop-names
decreases-loop-names l = length l.names

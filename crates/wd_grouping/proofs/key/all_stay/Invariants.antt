use Rattle.std.proofs.Common.{◌≡◌, length, map}
use Rattle.wd_grouping.specs.Keys.{all_stay}
use Rattle.wd_grouping.proofs.key.all_stay.Given as goal

abbrev pub invariant-loop-parts : goal.invariant-loop-parts
invariant-loop-parts l = all_stay (map (λ part. part.now) l.parts) ≡ all_stay (map (λ part. part.now) l.initial.parts)

abbrev pub decreases-loop-parts : goal.decreases-loop-parts
decreases-loop-parts l = length l.parts

use Rattle.std.proofs.Common.{◌≡◌, length, map}
use Rattle.wd_grouping.specs.Keys.{keys_of}
use Rattle.wd_grouping.specs.Named.{group_key}
use Rattle.wd_distinct_on.proofs.ListFacts.{following}
use Rattle.wd_grouping.proofs.key.keys_of.Given as goal

abbrev pub invariant-loop-rest : goal.invariant-loop-rest
invariant-loop-rest l = following (map group_key l.keys.items) (keys_of l.number (map (λ item. item.now) l.fn.items) (map (λ part. part.now) l.rest)) ≡ keys_of 0 (map (λ item. item.now) l.fn.items) (map (λ part. part.now) l.fn.parts)

abbrev pub decreases-loop-rest : goal.decreases-loop-rest
decreases-loop-rest l = length l.rest

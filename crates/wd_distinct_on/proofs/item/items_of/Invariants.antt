use Rattle.std.proofs.Common.{◌≡◌, length, map}
use Rattle.wd_distinct_on.specs.Named.{named_item}
use Rattle.wd_distinct_on.specs.Items.{items_of}
use Rattle.wd_distinct_on.proofs.ListFacts.{following}
use Rattle.wd_distinct_on.proofs.item.items_of.Given as goal

abbrev pub invariant-loop-rest : goal.invariant-loop-rest
invariant-loop-rest l = following (map named_item l.items.items) (items_of (map (λ part. part.now) l.rest)) ≡ items_of (map (λ part. part.now) l.fn.parts)

abbrev pub decreases-loop-rest : goal.decreases-loop-rest
decreases-loop-rest l = length l.rest

use Rattle.std.proofs.Common.{◌≡◌, length, map}
use Rattle.wd_using.specs.Merged.{merge_of}
use Rattle.wd_using.specs.Named.{joined_table, merged_column}
use Rattle.wd_distinct_on.proofs.ListFacts.{following}
use Rattle.wd_using.proofs.merge.merge_of.Given as goal

abbrev pub invariant-loop-rest : goal.invariant-loop-rest
invariant-loop-rest l = following (map merged_column l.merged.items) (merge_of (map joined_table l.fn.tables) (map (λ name. name.now) l.rest)) ≡ merge_of (map joined_table l.fn.tables) (map (λ name. name.now) l.fn.names)

abbrev pub decreases-loop-rest : goal.decreases-loop-rest
decreases-loop-rest l = length l.rest

use Rattle.std.proofs.Common.{◌≡◌, length, map}
use Rattle.wd_using.specs.Merged.{are_joined_by}
use Rattle.wd_using.specs.Named.{joined_table}
use Rattle.wd_using.proofs.merge.are_joined_by.Given as goal

abbrev pub invariant-loop-tables : goal.invariant-loop-tables
invariant-loop-tables l = are_joined_by l.name (map joined_table l.tables) ≡ are_joined_by l.name (map joined_table l.initial.tables)

abbrev pub decreases-loop-tables : goal.decreases-loop-tables
decreases-loop-tables l = length l.tables

use Rattle.std.proofs.Common.{◌≡◌, ◌++◌, length, map}
use Rattle.wd_lex.specs.declared.token.Terminal.TheVariants.{On}
use Rattle.wd_using.specs.Named.{joined_table, merged_column}
use Rattle.wd_using.specs.Written.{comparisons}
use Rattle.wd_using.proofs.write.add_comparisons.Given as goal

abbrev pub invariant-loop-names : goal.invariant-loop-names
invariant-loop-names l = l.written.items ++ comparisons (map merged_column l.fn.merged) (joined_table l.fn.table) l.first (map (λ name. name.now) l.names) ≡ l.initial.written.items ++ comparisons (map merged_column l.fn.merged) (joined_table l.fn.table) On (map (λ name. name.now) l.fn.table.condition.names.items)

abbrev pub decreases-loop-names : goal.decreases-loop-names
decreases-loop-names l = length l.names

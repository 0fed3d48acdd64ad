use Rattle.std.proofs.Common.{◌≡◌, length, map}
use Rattle.wd_dialect_read.specs.Tokens.{kind_in}
use Rattle.wd_dialect_read.proofs.kind.kind_in.Given as goal

abbrev pub invariant-loop-table : goal.invariant-loop-table
invariant-loop-table l = kind_in (map (λ entry. (entry.0.now, entry.1)) l.table) l.name ≡ kind_in (map (λ entry. (entry.0.now, entry.1)) l.initial.table) l.name

abbrev pub decreases-loop-table : goal.decreases-loop-table
decreases-loop-table l = length l.table

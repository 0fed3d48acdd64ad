use Rattle.std.proofs.Common.{◌≡◌, length, map}
use Rattle.wd_lex.specs.Terminals.{lookup}
use Rattle.wd_lex.proofs.terminals.lookup.Given as goal

abbrev pub invariant-loop-table : goal.invariant-loop-table
invariant-loop-table l = lookup (map (λ entry. (entry.0.now, entry.1)) l.table) l.bytes ≡ lookup (map (λ entry. (entry.0.now, entry.1)) l.initial.table) l.bytes

abbrev pub decreases-loop-table : goal.decreases-loop-table
decreases-loop-table l = length l.table

use Rattle.std.proofs.Common.{◌≡◌, length, map}
use Rattle.wd_dialect_read.specs.Tokens.{note_in}
use Rattle.wd_dialect_read.proofs.tail.note_in.Given as goal

abbrev pub invariant-loop-table : goal.invariant-loop-table
invariant-loop-table l = note_in (map (λ entry. (entry.0.now, entry.1)) l.table) l.word ≡ note_in (map (λ entry. (entry.0.now, entry.1)) l.initial.table) l.word

abbrev pub decreases-loop-table : goal.decreases-loop-table
decreases-loop-table l = length l.table

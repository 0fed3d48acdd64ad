use Rattle.std.proofs.Common.{◌≡◌, ◌+◌, ◌-◌, ◌≤◌, length, drop}
use Rattle.std.specs.List.{prefix_len}
use Rattle.wd_lex.specs.Reading.{is_in}
use Rattle.wd_lex.proofs.characters.run_len.Given as goal

abbrev pub invariant-loop-len : goal.invariant-loop-len
invariant-loop-len l = (l.len + prefix_len (is_in l.class) (drop l.len l.bytes) ≡ prefix_len (is_in l.class) l.bytes) × (l.len ≤ length l.bytes)

abbrev pub decreases-loop-len : goal.decreases-loop-len
decreases-loop-len l = length l.bytes - l.len

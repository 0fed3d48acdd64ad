use Rattle.std.proofs.Common.{◌≡◌, ◌++◌, ℕ, List, false, string_bytes}
use Rattle.wd_lines.specs.Lines.{joined_from}
use Rattle.wd_lines.proofs.lines.join_lines.Given as goal

abbrev pub invariant-loop-c : goal.invariant-loop-c
invariant-loop-c l = (rest : List ℕ) → string_bytes l.line ++ joined_from l.is_begun l.is_apart rest ≡ joined_from false false (l.yielded ++ rest)

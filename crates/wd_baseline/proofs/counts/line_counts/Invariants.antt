use Rattle.std.proofs.Common.{◌≡◌, ℕ, List, take}
use Rattle.std.specs.List.{count_by}
use Rattle.std.specs.Str.{bytes_eq}
use Rattle.std.specs.String.{string_bytes}
use Rattle.wd_baseline.specs.Counts.{count_in}
use Rattle.wd_baseline.proofs.counts.line_counts.Given as goal

abbrev pub invariant-loop-line : goal.invariant-loop-line
invariant-loop-line l = (line : List ℕ) → count_in l.counts line ≡ count_by (λ s. bytes_eq (string_bytes s) line) (take l.line-index l.lines)

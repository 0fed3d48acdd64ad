use Rattle.std.proofs.Common.{◌≡◌, ◌++◌, take}
use Rattle.std.specs.List.{flat_map}
use Rattle.wd_baseline.specs.Baselines.{with_feed}
use Rattle.wd_baseline.proofs.baseline.add_lines.Given as goal

abbrev pub invariant-loop-line : goal.invariant-loop-line
invariant-loop-line l = l.text.items ≡ l.initial.text.items ++ flat_map with_feed (take l.line-index l.lines)

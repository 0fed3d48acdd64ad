use Rattle.std.proofs.Common.{◌≡◌, ℕ, Option, map, reverse}
use Rattle.wd_report.specs.Marks.{is_same_place}
use Rattle.wd_report.specs.Plans.{rule_marked}
use Rattle.std.specs.HashMap as maps
use Rattle.wd_report.proofs.marks.MarkedRules.new.Given as goal

-- the last marks are in the index
abbrev pub invariant-loop-mark : goal.invariant-loop-mark
invariant-loop-mark l = (node : ℕ) (call : Option ℕ) → maps.get is_same_place l.rules (node, call) ≡ rule_marked node call (reverse (map (λ m. m.now) l.yielded))

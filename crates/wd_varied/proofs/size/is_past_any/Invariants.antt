use Rattle.std.proofs.Common.{◌≡◌, drop}
use Rattle.std.specs.List.{list_any}
use Rattle.wd_varied.specs.Sizes.{is_past_literal}
use Rattle.wd_varied.proofs.size.is_past_any.Given as goal

abbrev pub invariant-loop-literal : goal.invariant-loop-literal
invariant-loop-literal l = list_any (is_past_literal l.rows) (drop l.literal-index l.literals) ≡ list_any (is_past_literal l.rows) l.literals

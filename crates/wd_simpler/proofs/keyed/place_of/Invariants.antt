use Rattle.std.proofs.Common.{◌≡◌, ◌+◌, drop, map, option_map}
use Rattle.wd_plan.specs.Expressions.{expression_of}
use Rattle.wd_simpler.specs.Keyed.{place_of as place}
use Rattle.wd_simpler.proofs.keyed.place_of.Given as goal

abbrev pub invariant-loop-output : goal.invariant-loop-output
invariant-loop-output l = (l.place ≡ l.output-index) × (option_map (λ n. l.place + n) (place l.column (map expression_of (drop l.output-index l.outputs))) ≡ place l.column (map expression_of l.outputs))

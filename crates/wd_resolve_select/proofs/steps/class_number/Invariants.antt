use Rattle.std.proofs.Common.{◌≡◌, ◌+◌, drop, map}
use Rattle.wd_plan.specs.Plans.{class_of}
use Rattle.wd_resolve_select.specs.Steps.{same_class}
use Rattle.std.specs.List.{position_or_len}
use Rattle.wd_resolve_select.proofs.steps.class_number.Given as goal

abbrev pub invariant-loop-number : goal.invariant-loop-number
invariant-loop-number l = l.number + position_or_len (same_class (class_of l.class)) (map class_of (drop l.number l.classes)) ≡ position_or_len (same_class (class_of l.class)) (map class_of l.classes)

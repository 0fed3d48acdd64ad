use Rattle.std.proofs.Common.{◌≡◌, ◌++◌, drop, map}
use Rattle.wd_plan.specs.Plans.{class_of}
use Rattle.wd_plan.specs.Sorting.{class_columns}
use Rattle.wd_sets.specs.Sets.{has_column, is_in}
use Rattle.wd_verify.proofs.rules.class_sets.Given as goal

abbrev pub invariant-loop-class : goal.invariant-loop-class
invariant-loop-class l =
    map has_column l.list.items ++ map (λ class. is_in (class_columns class)) (map class_of (drop l.class-index l.classes))
    ≡ map (λ class. is_in (class_columns class)) (map class_of l.classes)

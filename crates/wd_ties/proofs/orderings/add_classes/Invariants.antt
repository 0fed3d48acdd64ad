use Rattle.std.proofs.Common.{◌≡◌, ◌++◌, map, take}
use Rattle.wd_plan.specs.Plans.{class_of, plan_of}
use Rattle.wd_ties.specs.Ordered.{node_columns}
use Rattle.wd_ties.specs.Orderings.{of_class}
use Rattle.wd_ties.proofs.orderings.add_classes.Given as goal

abbrev pub invariant-loop-class : goal.invariant-loop-class
invariant-loop-class l =
    map node_columns l.found.items ≡ map node_columns l.initial.found.items ++ map (of_class (plan_of l.node)) (map class_of (take l.class-index l.classes))

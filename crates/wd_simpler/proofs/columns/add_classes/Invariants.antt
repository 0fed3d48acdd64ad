use Rattle.std.proofs.Common.{flat_map, map, take}
use Rattle.wd_plan.specs.Plans.{class_of}
use Rattle.wd_plan.specs.Sorting.{class_columns}
use Rattle.wd_simpler.specs.Sets.{HasAlso}
use Rattle.wd_simpler.proofs.columns.add_classes.Given as goal

abbrev pub invariant-loop-class : goal.invariant-loop-class
invariant-loop-class l = HasAlso l.initial.set (flat_map class_columns (take l.class-index (map class_of l.classes))) l.set

use Rattle.std.proofs.Common.{◌≡◌, ◌++◌, true, drop, map, nat_lt}
use Rattle.std.specs.List.{list_all}
use Rattle.wd_plan.specs.Plans.{class_of}
use Rattle.wd_plan.specs.Sorting.{class_columns}
use Rattle.wd_analyse.specs.Evidence.{closing_of}
use Rattle.wd_analyse.specs.Sources.{AreClosings, starts}
use Rattle.wd_analyse.proofs.entry.close_classes.Given as goal

abbrev pub invariant-loop-class : goal.invariant-loop-class
invariant-loop-class l = record {
  closings : AreClosings l.facts (map closing_of l.list.items);
  starts : starts (map closing_of l.list.items) ++ map class_columns (map class_of (drop l.class-index l.classes)) ≡ map class_columns (map class_of l.classes);
  within : list_all (λ class. list_all (λ c. nat_lt c l.facts.columns) (class_columns class)) (map class_of (drop l.class-index l.classes)) ≡ true;
}

-- The orderings of a plan, as the columns by which each sorts the rows of a node.
use Rattle.std.specs.Prelude.{List, [], ◌∷◌, ◌++◌, map}
use Rattle.wd_value.specs.Keys.{key_columns}
use Rattle.wd_plan.specs.Plans.{ClassRule, LimitRule, PlanTree, Scan, Join, Over, Window, Limit}
use Rattle.wd_plan.specs.Sorting.{class_columns}
use Rattle.wd_candidates.specs.Tied.{NodeColumns}

-- the ordering of a class, or of a Limit, over the rows of a node
abbrev pub of_class : PlanTree → ClassRule → NodeColumns
of_class node class = record { node = node; columns = class_columns class }

abbrev pub of_limit : PlanTree → LimitRule → NodeColumns
of_limit node limit = record { node = node; columns = key_columns limit.keys }

-- the orderings of a plan, in the order of a choice
abbrev pub orderings : PlanTree → List NodeColumns
orderings (Scan table columns) = []
orderings (Join condition left right) = orderings left ++ orderings right
orderings (Over (Window w) input) = orderings input ++ map (of_class input) w.classes
orderings (Over (Limit limit) input) = orderings input ++ of_limit input limit ∷ []
orderings (Over step input) = orderings input

-- Children that keep no facts.
use Rattle.wd_plan.specs.Plans.{PlanTree, Scan, Join, Over, Filter, Map, Group, Window, Distinct, Limit}
use Rattle.wd_facts.specs.Laws.{AreOfChildren}
use Rattle.std.specs.Prelude.{[]}

pub none_kept : (plan : PlanTree) → AreOfChildren plan [] []
none_kept (Scan table columns) = tt
none_kept (Join condition left right) = (tt, tt)
none_kept (Over (Filter condition) input) = tt
none_kept (Over (Map outputs) input) = tt
none_kept (Over (Group rule) input) = tt
none_kept (Over (Window w) input) = tt
none_kept (Over Distinct input) = tt
none_kept (Over (Limit limit) input) = tt

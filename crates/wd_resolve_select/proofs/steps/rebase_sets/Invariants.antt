use Rattle.std.proofs.Common.{◌≡◌, map, take}
use Rattle.wd_plan.specs.Plans.{sets_of}
use Rattle.wd_resolve_list.specs.Grouping.{set_rebased}
use Rattle.wd_resolve_select.proofs.steps.rebase_sets.Given as goal

abbrev pub invariant-loop-set : goal.invariant-loop-set
invariant-loop-set l = sets_of l.rebased.items ≡ map (set_rebased l.columns) (sets_of (take l.set-index l.sets))

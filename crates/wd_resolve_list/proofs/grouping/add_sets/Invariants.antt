use Rattle.std.proofs.Common.{◌≡◌, drop, nat_eq}
use Rattle.std.specs.Prelude.{flat_map}
use Rattle.wd_plan.specs.Plans.{sets_of}
use Rattle.wd_resolve_list.specs.SelectLists.{with_new}
use Rattle.wd_resolve_list.proofs.grouping.add_sets.Given as goal

abbrev pub invariant-loop-set : goal.invariant-loop-set
invariant-loop-set l = with_new nat_eq l.columns.items (flat_map (λ s. s) (sets_of (drop l.set-index l.sets))) ≡ with_new nat_eq l.initial.columns.items (flat_map (λ s. s) (sets_of l.sets))

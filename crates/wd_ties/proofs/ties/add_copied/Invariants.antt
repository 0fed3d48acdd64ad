use Rattle.std.proofs.Common.{◌≡◌, ◌++◌, flat_map, option_to_list, take}
use Rattle.wd_plan.specs.Plans.{plan_of}
use Rattle.wd_candidates.specs.Origins.{origin}
use Rattle.wd_ties.proofs.ties.add_copied.Given as goal

abbrev pub invariant-loop-column : goal.invariant-loop-column
invariant-loop-column l =
    l.found.items ≡ l.initial.found.items ++ flat_map (λ k. option_to_list (origin (plan_of l.node) k)) (take l.column-index l.columns)

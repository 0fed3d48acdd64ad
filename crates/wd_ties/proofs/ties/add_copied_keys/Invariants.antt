use Rattle.std.proofs.Common.{◌≡◌, ◌++◌, flat_map, option_to_list, take}
use Rattle.wd_value.specs.declared.order.SortColumn.{SortColumn}
use Rattle.wd_plan.specs.Plans.{plan_of}
use Rattle.wd_candidates.specs.Origins.{origin}
use Rattle.wd_ties.proofs.ties.add_copied_keys.Given as goal

abbrev pub invariant-loop-key : goal.invariant-loop-key
invariant-loop-key l =
    l.found.items ≡ l.initial.found.items ++ flat_map (λ (key : SortColumn). option_to_list (origin (plan_of l.node) key.column)) (take l.key-index l.keys)

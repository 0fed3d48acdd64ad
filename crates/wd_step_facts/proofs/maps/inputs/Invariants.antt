use Rattle.std.proofs.Common.{◌≡◌, ◌+◌, ◌-◌, true, map, nat_lt, take, drop}
use Rattle.std.specs.List.{list_all}
use Rattle.wd_step_facts.specs.Facts.{columns_named}
use Rattle.wd_step_facts.proofs.maps.inputs.Given as goal

abbrev pub invariant-loop-column : goal.invariant-loop-column
invariant-loop-column l = (l.list.items ≡ columns_named (map (λ c. l.by + c) (take l.column-index l.columns))) × (list_all (λ c. nat_lt c (65536 - l.by)) (drop l.column-index l.columns) ≡ true)

use Rattle.std.proofs.Common.{◌≡◌, ◌+◌, ◌-◌, drop, map, true}
use Rattle.std.specs.List.{list_all}
use Rattle.wd_step_facts.specs.Facts.{columns_named, is_plain, moved}
use Rattle.wd_sets.specs.Reaches.{reaches_each}
use Rattle.wd_sets.specs.Sets.{has}
use Rattle.wd_node_facts.specs.Seen.{seen_of}
use Rattle.wd_traces.proofs.reached.reaches_columns.Given as goal

abbrev pub invariant-loop-column : goal.invariant-loop-column
invariant-loop-column l =
    (list_all (is_plain (65536 - l.by)) (columns_named (drop l.column-index l.columns)) ≡ true)
    × (reaches_each (seen_of l.facts) (has l.set) (map (moved (λ c. l.by + c) l.row) (columns_named (drop l.column-index l.columns))) ≡ reaches_each (seen_of l.facts) (has l.set) (map (moved (λ c. l.by + c) l.row) (columns_named l.columns)))

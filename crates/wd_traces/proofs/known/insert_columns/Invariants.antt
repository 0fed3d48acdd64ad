use Rattle.std.proofs.Common.{◌≡◌, ◌+◌, ◌-◌, drop, map, true}
use Rattle.std.specs.List.{list_all}
use Rattle.wd_step_facts.specs.declared.facts.Member.{Member}
use Rattle.wd_step_facts.specs.Facts.{columns_named, is_plain, moved}
use Rattle.wd_sets.specs.Sets.{has}
use Rattle.wd_sets.specs.Reaches.{also}
use Rattle.wd_traces.proofs.known.insert_columns.Given as goal

abbrev pub invariant-loop-column : goal.invariant-loop-column
invariant-loop-column l =
    (list_all (is_plain (65536 - l.by)) (columns_named (drop l.column-index l.columns)) ≡ true)
    × ((m : Member) → also (has l.set) (map (moved (λ c. l.by + c) l.row) (columns_named (drop l.column-index l.columns))) m ≡ also (has l.fn.set) (map (moved (λ c. l.by + c) l.row) (columns_named l.columns)) m)

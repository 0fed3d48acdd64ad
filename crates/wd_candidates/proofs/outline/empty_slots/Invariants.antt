use Rattle.std.proofs.Common.{◌≡◌, map}
use Rattle.std.specs.Map.Iter.{deref}
use Rattle.wd_schema.specs.Tables.{table_of}
use Rattle.wd_candidates.specs.Filled.{empty_slots}
use Rattle.wd_candidates.proofs.outline.empty_slots.Given as goal

abbrev pub invariant-loop-table : goal.invariant-loop-table
invariant-loop-table l = map (λ row. row.items) l.slots.items ≡ empty_slots (map table_of (map deref l.yielded))

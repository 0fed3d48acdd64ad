use Rattle.std.proofs.Common.{◌≡◌, ◌++◌, drop, map, None, slice_index_or}
use Rattle.wd_candidates.specs.Candidates.{cell}
use Rattle.wd_varied.specs.Patterns.{filled, filling_of}
use Rattle.wd_varied.specs.Varied.{by_place, filled_row}
use Rattle.wd_varied.proofs.tables.filled_row.Given as goal

abbrev pub invariant-loop-c : goal.invariant-loop-c
invariant-loop-c l = l.made.items ++ by_place (λ c f. cell (slice_index_or l.fixed c None) (filled f l.rows l.row)) l.c (drop l.c (map (filling_of l.suggested.all.items) l.fillings)) ≡ filled_row (λ c. slice_index_or l.fixed c None) (map (filling_of l.suggested.all.items) l.fillings) l.rows l.row

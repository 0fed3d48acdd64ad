use Rattle.std.proofs.Common.{◌≡◌, map, take, None}
use Rattle.wd_candidates.proofs.outline.empty_row.Given as goal

abbrev pub invariant-loop-column : goal.invariant-loop-column
invariant-loop-column l = l.row.items ≡ map (λ column. None) (take l._column-index l.columns)

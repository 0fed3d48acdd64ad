use Rattle.std.proofs.Common.{◌≡◌, map, None, slice_index_or}
use Rattle.std.specs.List.{range_with_len}
use Rattle.wd_schema.specs.Tables.{table_of}
use Rattle.wd_value.specs.Rows.{rows_of}
use Rattle.wd_candidates.specs.Candidates.{candidate_row}
use Rattle.wd_candidates.specs.Marks.{is_marked}
use Rattle.wd_candidates.proofs.rows.candidate_rows.Given as goal

abbrev pub invariant-loop-number : goal.invariant-loop-number
invariant-loop-number l = rows_of l.rows.items ≡ map (candidate_row (table_of l.table) (λ c. slice_index_or l.fixed c None) (is_marked l.tied) l.shape.style) (range_with_len 0 l.number)

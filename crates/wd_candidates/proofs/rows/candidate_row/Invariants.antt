use Rattle.std.proofs.Common.{◌≡◌, ◌++◌, drop, map, None, slice_index_or}
use Rattle.wd_schema.specs.Tables.{key_of, table_of}
use Rattle.wd_candidates.specs.Candidates.{candidate_row, cell, cells, is_keyed, styled_value}
use Rattle.wd_candidates.specs.Marks.{is_marked}
use Rattle.wd_candidates.proofs.rows.candidate_row.Given as goal

abbrev pub invariant-loop-c : goal.invariant-loop-c
invariant-loop-c l = l.row.items ++ cells (λ c column. cell (slice_index_or l.fixed c None) (styled_value l.style (is_marked l.tied c) (is_keyed (map key_of l.table.keys.items) c) column l.number)) l.c (drop l.c l.table.columns.items) ≡ candidate_row (table_of l.table) (λ c. slice_index_or l.fixed c None) (is_marked l.tied) l.style l.number

use Rattle.std.proofs.lemmas.Grind.{common_steps}
use Rattle.std.proofs.Common.{◌≡◌, ◌++◌, ◌∷◌, [], ◌∙◌, ap, sym, slice_index_or, None, arith, rules}
use Rattle.std.proofs.lemmas.List.{map-append}
use Rattle.std.proofs.lemmas.List.FromFn.{map-range_with_len_more}
use Rattle.wd_schema.specs.Tables.{table_of}
use Rattle.wd_value.specs.Rows.{rows_of}
use Rattle.wd_candidates.specs.Candidates.{candidate_row}
use Rattle.wd_candidates.specs.Marks.{is_marked}
use Rattle.wd_candidates.proofs.rows.candidate_rows.Goals as goal

pub loop-number-preserved : goal.loop-number-preserved
loop-number-preserved c =
    let f = candidate_row (table_of c.args.table.now) (λ n. slice_index_or c.args.fixed.now n None) (is_marked c.args.tied.now) c.args.shape.style in
    let i = c.loop-number.number in
    let row : c.in_ok-row.row.items ≡ f i = search rules in
    let pushed = c.in_ok-push.ensures.items in
    ap rows_of pushed ∙ map-append (λ r. r.items) c.loop-number.rows.items (c.in_ok-row.row ∷ []) ∙ (λ j. c.loop-number.invariant j ++ (row j ∷ [])) ∙ sym (map-range_with_len_more f 0 i i (omega arith))

pub returns : goal.returns
returns c = grind (arith, common_steps)

use Rattle.std.proofs.lemmas.Grind.{common_steps}
use Rattle.std.proofs.Common.{◌≡◌, ◌++◌, ◌∷◌, [], ◌∙◌, ap, map, sym, slice_index_or, None, arith, rules}
use Rattle.std.proofs.lemmas.List.{map-append}
use Rattle.std.proofs.lemmas.List.FromFn.{map-range_with_len_more}
use Rattle.wd_value.specs.Rows.{rows_of}
use Rattle.wd_varied.specs.Patterns.{filling_of}
use Rattle.wd_varied.specs.Varied.{filled_row}
use Rattle.wd_varied.proofs.tables.filled_rows.Goals as goal

pub loop-row-preserved : goal.loop-row-preserved
loop-row-preserved c =
    let f = filled_row (λ n. slice_index_or c.args.fixed.now n None) (map (filling_of c.args.suggested.now.all.items) c.args.fillings.now) c.args.rows in
    let i = c.loop-row.row in
    let row : c.in_ok-filled_row.field-0.items ≡ f i = search rules in
    let pushed = c.in_ok-push.ensures.items in
    ap rows_of pushed ∙ map-append (λ r. r.items) c.loop-row.made.items (c.in_ok-filled_row.field-0 ∷ []) ∙ (λ j. c.loop-row.invariant j ++ (row j ∷ [])) ∙ sym (map-range_with_len_more f 0 i i (omega arith))

pub returns : goal.returns
returns c = grind (arith, common_steps)

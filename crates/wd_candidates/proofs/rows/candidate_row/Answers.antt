use Rattle.std.proofs.Common.{◌≡◌, ◌∙◌, map, rules}
use Rattle.wd_schema.specs.Tables.{key_of}
use Rattle.wd_candidates.specs.Candidates.{cell, is_keyed, styled_value}
use Rattle.wd_candidates.proofs.Cells.{cells_end, cells_next}
use Rattle.wd_candidates.proofs.rows.candidate_row.Goals as goal

pub loop-c-preserved : goal.loop-c-preserved
loop-c-preserved c =
    let column = c.index.result.now in
    let keyed : c.is_marked-is_keyed.result ≡ is_keyed (map key_of c.args.table.now.keys.items) c.loop-c.c = c.is_marked-is_keyed.ensures ∙ c.requires c.loop-c.c (search rules) in
    let value = c.in_ok-value.ensures ∙ (λ j. cell (c.value_if_fixed.ensures j) (styled_value c.args.style (c.is_marked-is_tied.ensures j) (keyed j) column c.args.number)) in
    let next = cells_next _ c.loop-c.row.items _ c.args.table.now.columns.items c.loop-c.c column c.in_ok-value.value (search rules) c.index.ensures value c.loop-c.invariant in
    rw c.in_ok-push.ensures.items next

pub returns : goal.returns
returns c = cells_end _ c.loop-c.row.items _ c.args.table.now.columns.items c.loop-c.c (search rules) c.loop-c.invariant

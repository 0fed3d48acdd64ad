use Rattle.std.proofs.Common.{◌≡◌, ◌∙◌, ap, cond, true, map, [], None, get_or, Some, option_map, slice_get, sym}
use Rattle.std.proofs.lemmas.Result.{IfOk-weaker}
use Rattle.std.proofs.lemmas.Option.{slice_get-map}
use Rattle.wd_value.specs.Bags.{positions}
use Rattle.wd_schema.specs.Schemas.{schema_of}
use Rattle.wd_schema.specs.Tables.{table_of}
use Rattle.wd_candidates.specs.Candidates.{candidate_row}
use Rattle.wd_candidates.specs.Marks.{is_marked}
use Rattle.wd_candidates.specs.Outlines.{scanned_in}
use Rattle.wd_candidates.proofs.Cells.{rule_at}
use Rattle.wd_candidates.proofs.rows.rows_of_table.Goals as goal

pub returns-in-Some : goal.returns-in-Some
returns-in-Some c =
    let tables = schema_of c.args.schema.now in
    let entry : slice_get tables c.args.number ≡ Some (table_of c.in-Some.table.now) = slice_get-map _ c.args.schema.now.tables.entries c.args.number ∙ ap (option_map _) (sym c.in-Some.ensures.entry) in
    let table = rule_at tables c.args.number (table_of c.in-Some.table.now) entry in
    let scanned : true ≡ scanned_in c.args.outline.now c.args.number = c.if-is_marked.ensures ∙ ap (λ l. is_marked l c.args.number) c.deref.ensures.value in
    IfOk-weaker c.candidate_rows.result _ _
    (λ v e. e ∙ (λ j. cond (scanned j) (map (candidate_row (table j) (λ n. get_or (c.fixed_columns-fixed.ensures j) n None) (is_marked (c.columns_tied-tied.ensures j)) c.args.shape.style) (positions c.args.shape.rows)) []))
    c.candidate_rows.ensures

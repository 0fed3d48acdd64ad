use Rattle.std.proofs.Common.{◌≡◌, ◌∙◌, ap, cond, true, map, [], None, get_or, Some, option_map, slice_get, sym}
use Rattle.std.proofs.lemmas.Result.{IfOk-weaker}
use Rattle.std.proofs.lemmas.Option.{slice_get-map}
use Rattle.wd_value.specs.Bags.{positions}
use Rattle.wd_schema.specs.Schemas.{schema_of}
use Rattle.wd_schema.specs.Tables.{table_of}
use Rattle.wd_candidates.specs.Marks.{is_marked}
use Rattle.wd_candidates.specs.Outlines.{scanned_in}
use Rattle.wd_candidates.proofs.Cells.{rule_at}
use Rattle.wd_varied.specs.Patterns.{filling_of}
use Rattle.wd_varied.specs.Suggested.{hints_of}
use Rattle.wd_varied.specs.Varied.{fillings, filled_row}
use Rattle.wd_varied.proofs.tables.rows_of_table.Goals as goal

pub returns-in_ok-fillings-in-Some : goal.returns-in_ok-fillings-in-Some
returns-in_ok-fillings-in-Some c =
    let tables = schema_of c.args.schema.now in
    let s = c.args.suggested.now in
    let entry : slice_get tables c.args.at ≡ Some (table_of c.in-Some.table.now) = slice_get-map _ c.args.schema.now.tables.entries c.args.at ∙ ap (option_map _) (sym c.in-Some.ensures.entry) in
    let table = rule_at tables c.args.at (table_of c.in-Some.table.now) entry in
    let scanned : true ≡ scanned_in c.args.outline.now c.args.at = c.if-is_marked.ensures ∙ ap (λ l. is_marked l c.args.at) c.deref.ensures.value in
    let filled = ap (map (filling_of c.args.suggested.now.all.items)) c.deref-in-Some.ensures.value ∙ c.in_ok-fillings-in-Some.ensures ∙ ap (λ t. fillings (hints_of s) t c.args.at c.args.rows c.args.number) table in
    IfOk-weaker c.filled_rows.result _ _
    (λ v e. e ∙ (λ j. cond (scanned j) (map (filled_row (λ n. get_or (c.fixed_columns.ensures j) n None) (filled j) c.args.rows) (positions c.args.rows)) []))
    c.filled_rows.ensures

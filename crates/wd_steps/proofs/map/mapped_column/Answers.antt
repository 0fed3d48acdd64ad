use Rattle.std.proofs.Common.{◌∙◌, Ok, ap, map, refl, sym}
use Rattle.wd_value.specs.Rows.{column_of}
use Rattle.wd_plan.specs.Expressions.{Column, expression_of, value_of}
use Rattle.wd_plan.specs.Faults.{all_ok}
use Rattle.wd_steps.proofs.Selecting.{all_ok-map}
use Rattle.wd_steps.proofs.map.mapped_column.Goals as goal

pub returns-in_ok-copied_column-in-Column : goal.returns-in_ok-copied_column-in-Column
returns-in_ok-copied_column-in-Column c =
    let rows = c.args.rows.now in
    let column = c.in-Column.column in
    ap Ok c.in_ok-copied_column-in-Column.ensures
    ∙ sym (ap (λ e. all_ok (map (value_of (expression_of e)) rows)) c.in-Column.is ∙ all_ok-map (value_of (Column column)) (λ row. column_of row column) rows (λ k d low. refl))

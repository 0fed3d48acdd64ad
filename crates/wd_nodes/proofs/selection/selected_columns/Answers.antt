use Rattle.std.proofs.Common.{◌∙◌, Ok, ap, map, sym}
use Rattle.std.proofs.lemmas.Option.{IfSome_then}
use Rattle.wd_value.specs.Rows.{columns_of}
use Rattle.wd_plan.specs.Expressions.{expression_of}
use Rattle.wd_nodes.proofs.Selected.{none_different, none_shown, selected_outcome, still_none}
use Rattle.wd_nodes.proofs.selection.selected_columns.Goals as goal

pub returns-in-None-clause-none : goal.returns-in-None-clause-none
returns-in-None-clause-none c = λ columns different is. (
    let none = rw c.in-None.is at c.in_ok-columns.ensures.none in
    none_shown (map expression_of c.args.outputs.now) columns none is)

pub returns-in-Some-clause-none : goal.returns-in-Some-clause-none
returns-in-Some-clause-none c =
    let are = rw c.in-Some.is at c.in_ok-columns.ensures.columns in
    still_none c.different.result (λ twice columns different is. none_different c.past_columns.result (map expression_of c.args.outputs.now) c.in-Some.columns.items columns are twice different is) c.different.ensures.none

pub returns-in-Some-clause-columns : goal.returns-in-Some-clause-columns
returns-in-Some-clause-columns c =
    let rows = c.args.rows.now in
    let columns = c.in-Some.columns.items in
    let are = rw c.in-Some.is at c.in_ok-columns.ensures.columns in
    let outcome = selected_outcome c.past_columns.result (map expression_of c.args.outputs.now) columns rows are c.past_columns.ensures in
    IfSome_then c.different.result c.different.ensures.numbers (λ v found. (found.0, outcome ∙ ap (λ cs. Ok (map (columns_of cs) rows)) (sym found.1)))

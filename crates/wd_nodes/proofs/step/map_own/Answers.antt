use Rattle.std.proofs.Common.{◌≡◌, ◌∙◌, Ok, map, sym, ap}
use Rattle.wd_value.specs.Rows.{columns_of}
use Rattle.wd_plan.specs.Expressions.{expression_of}
use Rattle.wd_plan.specs.Outcomes.{map_outcome}
use Rattle.wd_nodes.proofs.step.map_own.Goals as goal

pub returns-in_ok-selected-in-Some : goal.returns-in_ok-selected-in-Some
returns-in_ok-selected-in-Some c = λ instance. (
    let rows = c.args.rows in
    let columns = c.in-Some.columns.items in
    let source : c.source.result ≡ rows = c.source.ensures in
    let found = rw c.in-Some.is at c.in_ok-columns.ensures.columns in
    ap Ok (c.in_ok-selected-in-Some.ensures ∙ ap (λ cs. map (columns_of cs) rows) c.deref.ensures.value ∙ ap (map (columns_of columns)) (sym source))
    ∙ sym found.1
    ∙ ap (map_outcome (map expression_of c.args.outputs.now)) source)

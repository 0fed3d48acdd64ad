use Rattle.std.proofs.lemmas.Grind.{common_steps}
use Rattle.std.proofs.Common.{◌∙◌, map, sym, ap, arith}
use Rattle.std.proofs.lemmas.List.{get_or-map, length-map}
use Rattle.std.proofs.lemmas.List.Folds.{list_all_at}
use Rattle.wd_plan.specs.Expressions.{expression_of}
use Rattle.wd_steps.specs.Selections.{is_column}
use Rattle.wd_steps.proofs.Selecting.{not_column}
use Rattle.wd_steps.proofs.shown.shown_columns.Goals as goal

pub returns-in_default : goal.returns-in_default
returns-in_default c =
    let outputs = c.args.outputs.now in
    let i = c.loop-output.output-index in
    let output = c.output-item.result in
    let e = expression_of output in
    let is = get_or-map expression_of outputs i output e c.loop-output-test.true ∙ ap expression_of (sym c.output-item.is) in
    record {
      columns = tt;
      none = list_all_at is_column (map expression_of outputs) i e (rw length-map c.loop-output-test.true) (ap is_column is ∙ not_column output c.in_default.not-Column);
    }

pub loop-output-preserved : goal.loop-output-preserved
loop-output-preserved c = grind (arith, common_steps)

pub returns : goal.returns
returns c = grind (arith, common_steps)

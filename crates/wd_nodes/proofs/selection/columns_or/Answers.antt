use Rattle.std.proofs.lemmas.Grind.{common_steps}
use Rattle.std.proofs.Common.{◌≡◌, ◌∙◌, ◌≤◌, ◌+◌, ◌++◌, ◌∷◌, [], map, take, sym, ap, subst, arith}
use Rattle.std.specs.List.{AllZip}
use Rattle.std.proofs.lemmas.List.{get_or-map, length-map, map_push, take_more}
use Rattle.std.proofs.lemmas.List.Folds.{list_all_at}
use Rattle.wd_plan.specs.Expressions.{expression_of}
use Rattle.wd_steps.specs.Selections.{is_column}
use Rattle.wd_nodes.specs.Selected.{IsColumnOr}
use Rattle.wd_nodes.proofs.Selected.{from_earlier, zip_more}
use Rattle.wd_nodes.proofs.selection.columns_or.Goals as goal

pub returns-in-None-clause-none : goal.returns-in-None-clause-none
returns-in-None-clause-none c =
    let outputs = c.args.outputs.now in
    let i = c.loop-output.output-index in
    let output = c.output-item.result in
    let e = expression_of output in
    let is = get_or-map expression_of outputs i output e c.loop-output-test.true ∙ ap expression_of (sym c.output-item.is) in
    list_all_at is_column (map expression_of outputs) i e (rw length-map c.loop-output-test.true) (ap is_column is ∙ c.in-None.ensures.none)

pub loop-output-preserved : goal.loop-output-preserved
loop-output-preserved c =
    let outputs = c.args.outputs.now in
    let past = c.args.past in
    let i = c.loop-output.output-index in
    let output = c.output-item.result in
    let e = expression_of output in
    let before = take i outputs in
    let columns = c.loop-output.columns.items in
    let column = c.in-Some.column in
    let next = c.saturating_add-next.result in
    let sum = c.saturating_add-next.ensures in
    let fits = c.ranges.past.fits in
    let low : past ≤ next = omega arith in
    let more : map expression_of (take (i + 1) outputs) ≡ map expression_of before ++ e ∷ [] =
    ap (map expression_of) (take_more outputs i output c.loop-output-test.true ∙ ap (λ o. before ++ o ∷ []) (sym c.output-item.is)) ∙ map_push expression_of before output in
    subst (AllZip (IsColumnOr past) (map expression_of (take (i + 1) outputs))) (sym c.in_ok-push-in-Some.ensures.items)
    (subst (λ es. AllZip (IsColumnOr past) es (columns ++ column ∷ [])) (sym more)
    (zip_more (IsColumnOr past) (map expression_of before) columns e column c.loop-output.invariant (from_earlier past next e column low c.in-Some.ensures.column)))

pub returns : goal.returns
returns c = grind (arith, common_steps)

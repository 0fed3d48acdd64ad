use Rattle.std.proofs.Common.{◌≡◌, length, All, rules, subst}
use Rattle.wd_value.specs.Rows.{Row}
use Rattle.wd_plan.specs.Expressions.{expression_of}
use Rattle.wd_join.specs.Paired.{HasExact}
use Rattle.wd_join.proofs.Pairing.{AreExact-wide}
use Rattle.wd_join.proofs.exact.exact_columns.Goals as goal

pub returns-then-branch-clause-exact : goal.returns-then-branch-clause-exact
returns-then-branch-clause-exact c =
    let e = expression_of c.args.condition.now in
    let left = c.args.left.now in
    let right = c.args.right.now in
    let l = c.first_widths-widths.result.left in
    let r = c.first_widths-widths.result.right in
    let columns = c.push_exact.new.columns.items in
    let l-wide : All (λ (row : Row). length row ≡ l) left = c.are_wide.ensures.wide (search rules) in
    let r-wide : All (λ (row : Row). length row ≡ r) right = c.are_wide-2.ensures.wide (search rules) in
    let told = subst (λ old. HasExact l r e old columns) c.new-columns.ensures.items (c.in_ok-push_exact.ensures.exact c.if-branch.true) in
    AreExact-wide l r e columns left right l-wide r-wide told

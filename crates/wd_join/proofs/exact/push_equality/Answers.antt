use Rattle.std.proofs.Common.{sym, subst}
use Rattle.wd_plan.specs.Expressions.{expression_of}
use Rattle.wd_join.specs.Matching.{equality}
use Rattle.wd_join.specs.Paired.{HasExact}
use Rattle.wd_join.proofs.Pairing.{HasExact-one}
use Rattle.wd_join.proofs.exact.push_equality.Goals as goal

pub returns-in_ok-push-in-Some-clause-exact : goal.returns-in_ok-push-in-Some-clause-exact
returns-in_ok-push-in-Some-clause-exact c = λ told. (
    let left = c.args.widths.left in
    let right = c.args.widths.right in
    let e = equality (expression_of c.args.a.now) (expression_of c.args.b.now) in
    let old = c.args.columns.now.items in
    let found = rw c.in-Some.is at c.compared_columns.ensures.found in
    subst (HasExact left right e old) (sym c.in_ok-push-in-Some.ensures.items) (HasExact-one left right e old c.in-Some.found found))

use Rattle.std.proofs.Common.{◌≡◌, true, IfOk, subst}
use Rattle.std.proofs.lemmas.Result.{IfOk-weaker}
use Rattle.wd_plan.specs.Expressions.{And, expression_of}
use Rattle.wd_join.specs.Paired.{HasExact}
use Rattle.wd_join.proofs.Pairing.{HasExact-both}
use Rattle.wd_join.proofs.exact.+push_exact.Goals as goal

pub returns-else-not-branch-clause-exact : goal.returns-else-not-branch-clause-exact
returns-else-not-branch-clause-exact t c =
    let left = c.args.widths.left in
    let right = c.args.widths.right in
    let a = expression_of c.in-And.a.value in
    let b = expression_of c.in-And.b.value in
    let old = c.args.columns.now.items in
    let middle = c.push_exact.new.columns.items in
    let last = c.push_exact-in-And in
    let new = last.new.columns.items in
    let first = subst (λ e. HasExact left right (expression_of e) old middle) c.deref-in-And.ensures (c.in_ok-push_exact-in-And.ensures.exact c.if-not-branch.false) in
    let second = subst (λ e. IfOk last.result (λ y. y ≡ true → HasExact left right (expression_of e) middle new)) c.deref-in-And-2.ensures last.ensures.exact in
    rw c.in-And.is (IfOk-weaker last.result (λ y. y ≡ true → HasExact left right b middle new) (λ y. y ≡ true → HasExact left right (And a b) old new)
    (λ y h told. HasExact-both left right a b old middle new first (h told)) second)

use Rattle.std.proofs.Common.{◌≡◌, OnOk, false, subst, rules}
use Rattle.std.proofs.lemmas.Result.{on_ok_weaker}
use Rattle.wd_plan.specs.Expressions.{expression_of}
use Rattle.wd_scalar.specs.Arithmetic.{has_arithmetic}
use Rattle.wd_join.specs.Matching.{AreDeciding}
use Rattle.wd_join.proofs.Deciding.{AreDeciding-both}
use Rattle.wd_join.proofs.matching.+push_deciding.Goals as goal

pub returns-else-has_arithmetic : goal.returns-else-has_arithmetic
returns-else-has_arithmetic t c =
    let left = c.args.widths.left in
    let right = c.args.widths.right in
    let a = expression_of c.in-And.a.value in
    let b = expression_of c.in-And.b.value in
    let old = c.args.columns.now.items in
    let middle = c.push_deciding.new.columns.items in
    let last = c.push_deciding-else-has_arithmetic in
    let sure : has_arithmetic a ≡ false = search rules in
    let first : AreDeciding left right a old middle = search rules in
    let second = subst (λ e. OnOk last.result (AreDeciding left right (expression_of e) middle last.new.columns.items)) c.deref-else-has_arithmetic.ensures last.ensures in
    rw c.in-And.is (on_ok_weaker last.result (AreDeciding-both left right a b old middle last.new.columns.items sure first) second)

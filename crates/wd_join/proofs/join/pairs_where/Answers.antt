use Rattle.std.proofs.lemmas.Grind.{common_steps}
use Rattle.std.proofs.Common.{◌≡◌, ◌∙◌, ◌<◌, ◌≤◌, false, ap, length, take, refl, sym, subst, rules, arith}
use Rattle.std.proofs.lemmas.List.{length-map}
use Rattle.wd_value.specs.Rows.{row_at}
use Rattle.wd_plan.specs.Expressions.{expression_of, value_of}
use Rattle.wd_plan.specs.Outcomes.{pairs, passes}
use Rattle.wd_scalar.specs.Arithmetic.{has_arithmetic}
use Rattle.wd_steps.specs.Faults.{with_result}
use Rattle.wd_joined.specs.declared.pairs.Pair.{Pair}
use Rattle.wd_join.specs.Joins.{AreKept, with_next}
use Rattle.wd_joined.specs.Pairs.{row_paired, rows_paired}
use Rattle.wd_join.proofs.Joining.{AreKept-enough, AreKept-more, map-with_next, pairs_more, pairs_next}
use Rattle.wd_join.proofs.join.pairs_where.Goals as goal

pub returns-then-len-most : goal.returns-then-len-most
returns-then-len-most c =
    let condition = expression_of c.args.condition.now in
    let left = c.args.left.now in
    let right = c.args.right.now in
    let kept = c.loop-i.kept in
    let rows = rows_paired left right kept.pairs.items in
    let sure : has_arithmetic condition ≡ false = sym c.if-faultless.ensures in
    let long = length-map kept.pairs.items (row_paired left right) in
    let enough : c.args.most < length rows = omega arith in
    AreKept-enough condition c.args.most left right rows c.loop-i.i kept.fault sure enough c.loop-i.invariant

pub loop-j-preserved : goal.loop-j-preserved
loop-j-preserved c =
    let condition = expression_of c.args.condition.now in
    let left = c.args.left.now in
    let right = c.args.right.now in
    let i = c.loop-i.i in
    let j = c.loop-j.j in
    let old = c.loop-j.kept in
    let new = c.look_at.new.self in
    let within : j < length right = omega arith in
    let pair : Pair = record { left = i; right = j } in
    let value = value_of condition (row_paired left right pair) in
    let next = pairs_next (pairs (take i left) right) (row_at left i) right j within in
    let grown : new.pairs.items ≡ with_next c.args.most (passes value) old.pairs.items pair = search rules in
    let looked : new.fault ≡ with_result old.fault value = search rules in
    let rows = ap (rows_paired left right) grown ∙ map-with_next (row_paired left right) c.args.most (passes value) old.pairs.items pair in
    subst (λ ps. AreKept condition c.args.most ps (rows_paired left right new.pairs.items) new.fault) next
    (AreKept-more condition c.args.most _ _ _ _ _ (row_paired left right pair) _ c.loop-j.invariant refl rows looked)

pub loop-i-preserved : goal.loop-i-preserved
loop-i-preserved c =
    let left = c.args.left.now in
    let right = c.args.right.now in
    let kept = c.loop-j.kept in
    let within : c.loop-i.i < length left = omega arith in
    let all : length right ≤ c.loop-j.j = omega arith in
    subst (λ ps. AreKept (expression_of c.args.condition.now) c.args.most ps (rows_paired left right kept.pairs.items) kept.fault) (pairs_more left right c.loop-i.i c.loop-j.j within all) c.loop-j.invariant

pub returns : goal.returns
returns c = grind (arith, common_steps)

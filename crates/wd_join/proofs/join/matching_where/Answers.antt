use Rattle.std.proofs.Common.{◌≡◌, ◌∙◌, ◌-◌, ◌<◌, ◌≤◌, false, ap, drop, get_or, length, take, refl, sym, subst, rules, arith}
use Rattle.std.proofs.lemmas.List.{get_or_default, length-map, take_all}
use Rattle.wd_value.specs.Rows.{row_at}
use Rattle.wd_plan.specs.Expressions.{expression_of, value_of}
use Rattle.wd_plan.specs.Outcomes.{passes}
use Rattle.wd_scalar.specs.Arithmetic.{has_arithmetic}
use Rattle.wd_steps.specs.Faults.{with_result}
use Rattle.wd_joined.specs.declared.pairs.Pair.{Pair}
use Rattle.wd_join.specs.Joins.{AreKept, with_next}
use Rattle.wd_join.specs.Matching.{AreAgreeing, matching}
use Rattle.wd_joined.specs.Pairs.{row_paired, rows_paired}
use Rattle.wd_join.proofs.Agreeing.{AreKept-pairs, AreSkippable-take, matching_done, matching_next}
use Rattle.wd_join.proofs.Joining.{AreKept-enough, AreKept-more, map-with_next}
use Rattle.wd_join.proofs.join.matching_where.Goals as goal

pub returns-then-len-most : goal.returns-then-len-most
returns-then-len-most c =
    let condition = expression_of c.args.condition.now in
    let columns = c.args.columns.now in
    let left = c.args.left.now in
    let right = c.args.right.now in
    let i = c.loop-i.i in
    let kept = c.loop-i.kept in
    let rows = rows_paired left right kept.pairs.items in
    let sure : has_arithmetic condition ≡ false = sym c.if-faultless.ensures in
    let long = length-map kept.pairs.items (row_paired left right) in
    let enough : c.args.most < length rows = omega arith in
    AreKept-enough condition c.args.most left right rows i kept.fault sure enough
    (AreKept-pairs condition columns (take i left) right (AreSkippable-take condition columns left right i c.requires) c.args.most rows kept.fault c.loop-i.invariant)

pub loop-position-preserved : goal.loop-position-preserved
loop-position-preserved c =
    let condition = expression_of c.args.condition.now in
    let left = c.args.left.now in
    let right = c.args.right.now in
    let i = c.loop-i.i in
    let j = c.loop-position.position-index in
    let old = c.loop-position.kept in
    let new = c.look_at.new.self in
    let front = matching c.args.columns.now (take i left) right in
    let positions = c.positions_in-positions.result.now in
    let within : j < length positions = omega arith in
    let position = get_or positions j 0 in
    let is : position ≡ get_or positions j position = get_or_default positions j 0 position within in
    let pair : Pair = record { left = i; right = position } in
    let value = value_of condition (row_paired left right pair) in
    let next = matching_next front (row_at left i) right positions j position within is in
    let grown : new.pairs.items ≡ with_next c.args.most (passes value) old.pairs.items pair = search rules in
    let looked : new.fault ≡ with_result old.fault value = search rules in
    let rows = ap (rows_paired left right) grown ∙ map-with_next (row_paired left right) c.args.most (passes value) old.pairs.items pair in
    subst (λ ps. AreKept condition c.args.most ps (rows_paired left right new.pairs.items) new.fault) next
    (AreKept-more condition c.args.most _ _ _ _ _ (row_paired left right pair) _ c.loop-position.invariant refl rows looked)

pub loop-i-preserved : goal.loop-i-preserved
loop-i-preserved c =
    let columns = c.args.columns.now in
    let left = c.args.left.now in
    let right = c.args.right.now in
    let i = c.loop-i.i in
    let j = c.loop-position.position-index in
    let kept = c.loop-position.kept in
    let positions = c.positions_in-positions.result.now in
    let within : i < length left = omega arith in
    let all : length positions ≤ j = omega arith in
    let agreeing = c.in_ok-agreeing.agreeing in
    let found : AreAgreeing columns left right agreeing = search rules in
    let s = c.index.result.now in
    let at : s ≡ get_or agreeing.ranges.items i s = search rules in
    let here : positions ≡ take (s.end - s.start) (drop s.start agreeing.order.items) = search rules in
    let last = matching_done columns left right agreeing.order.items agreeing.ranges.items i j (row_at left i) positions s found within at here refl all in
    subst (λ ps. AreKept (expression_of c.args.condition.now) c.args.most ps (rows_paired left right kept.pairs.items) kept.fault) last c.loop-position.invariant

pub returns : goal.returns
returns c =
    let condition = expression_of c.args.condition.now in
    let columns = c.args.columns.now in
    let left = c.args.left.now in
    let right = c.args.right.now in
    let kept = c.loop-i.kept in
    let rows = rows_paired left right kept.pairs.items in
    let all : length left ≤ c.loop-i.i = omega arith in
    let so_far = subst (λ ls. AreKept condition c.args.most (matching columns ls right) rows kept.fault) (take_all c.loop-i.i left all) c.loop-i.invariant in
    AreKept-pairs condition columns left right c.requires c.args.most rows kept.fault so_far

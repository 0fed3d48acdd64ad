use Rattle.std.proofs.Common.{◌≡◌, ◌<◌, ◌≤◌, get_or, length, set, rules, arith}
use Rattle.wd_value.specs.Rows.{row_at}
use Rattle.wd_join.specs.Matching.{IsKnown, IsAgreeingRange}
use Rattle.wd_join.proofs.Walking.{AreWalked-all, AreWalked-more}
use Rattle.wd_join.proofs.walk.agreeing_ranges.Goals as goal

pub range_from-known-requires-clause-before : goal.range_from-known-requires-clause-before
range_from-known-requires-clause-before c = c.loop-position.invariant.before c.loop-position.position-index (omega arith) (omega (arith, c.loop-position-test.true))

pub loop-position-preserved : goal.loop-position-preserved
loop-position-preserved c =
    let columns = c.args.columns.now in
    let left = c.args.left.now in
    let right = c.args.right.now in
    let left_order = c.args.left_order.now in
    let order = c.args.order.now in
    let i = c.loop-position.position-index in
    let s = c.range_from-known.result in
    let within : i < length left_order = omega arith in
    let is : IsAgreeingRange columns (row_at left (get_or left_order i 0)) right order s = search rules in
    let before : IsKnown columns (row_at left (get_or left_order i 0)) right order s = search rules in
    let put : c.put_range.new.ranges.items ≡ set c.loop-position.ranges.items (get_or left_order i 0) s = search rules in
    AreWalked-more columns left right left_order order c.requires.left_sorted i c.loop-position.known c.loop-position.ranges.items c.put_range.new.ranges.items s within c.loop-position.invariant is before put

pub returns : goal.returns
returns c =
    let all : length c.args.left_order.now ≤ c.loop-position.position-index = omega arith in
    AreWalked-all c.args.columns.now c.args.left.now c.args.right.now c.args.left_order.now c.args.order.now c.requires.left_sorted c.loop-position.position-index c.loop-position.known c.loop-position.ranges.items all c.loop-position.invariant

use Rattle.std.proofs.lemmas.Grind.{common_steps}
use Rattle.std.proofs.Common.{◌≡◌, ◌<◌, false, get_or, length, rules, arith}
use Rattle.wd_value.specs.Rows.{row_at}
use Rattle.wd_join.specs.Matching.{compare_sides, is_before}
use Rattle.wd_join.proofs.Holding.{IsEnd-here}
use Rattle.wd_join.proofs.walk.end_from.Goals as goal

pub returns-then-not-is_before-clause-is : goal.returns-then-not-is_before-clause-is
returns-then-not-is_before-clause-is c =
    let too = c.args.too in
    let columns = c.args.columns.now in
    let row = row_at c.args.left.now c.args.position in
    let right = c.args.right.now in
    let order = c.args.order.now in
    let i = c.loop-i.i in
    let within : i < length order = omega arith in
    let no : is_before too (compare_sides columns row (row_at right (get_or order i 0))) ≡ false = search rules in
    IsEnd-here columns right order row c.requires.sorted too i within c.loop-i.invariant.2 no

pub returns : goal.returns
returns c = grind (arith, common_steps)

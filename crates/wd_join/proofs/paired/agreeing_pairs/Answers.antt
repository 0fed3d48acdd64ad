use Rattle.std.proofs.Common.{◌≡◌, ◌∙◌, ◌+◌, ◌-◌, ◌<◌, ◌++◌, ap, drop, get_or, length, take, rules, arith}
use Rattle.std.proofs.lemmas.List.{length-append}
use Rattle.wd_join.specs.Matching.{AreAgreeing}
use Rattle.wd_joined.specs.Pairs.{rows_paired}
use Rattle.wd_join.specs.Paired.{with_each}
use Rattle.wd_join.proofs.Pairing.{length-with_each, paired_more, paired_past}
use Rattle.wd_join.proofs.paired.agreeing_pairs.Goals as goal

pub returns-then-positions-most-clause-too_many : goal.returns-then-positions-most-clause-too_many
returns-then-positions-most-clause-too_many c = λ same. (
    let columns = c.args.columns.now in
    let left = c.args.left.now in
    let right = c.args.right.now in
    let i = c.loop-i.i in
    let old = c.loop-i.pairs.items in
    let positions = c.positions_in-positions.result.now in
    let within : i < length left = omega arith in
    let agreeing = c.in_ok-agreeing.agreeing in
    let found : AreAgreeing columns left right agreeing = search rules in
    let s = c.index.result.now in
    let at : s ≡ get_or agreeing.ranges.items i s = search rules in
    let here : positions ≡ take (s.end - s.start) (drop s.start agreeing.order.items) = search rules in
    let past : c.args.most < length old + length positions = omega (arith, c.loop-i.invariant.within) in
    paired_past columns left right agreeing.order.items positions agreeing.ranges.items i s old found within at here c.loop-i.invariant.pairs c.args.most past)

pub loop-i-preserved : goal.loop-i-preserved
loop-i-preserved c =
    let columns = c.args.columns.now in
    let left = c.args.left.now in
    let right = c.args.right.now in
    let i = c.loop-i.i in
    let old = c.loop-i.pairs.items in
    let positions = c.positions_in-positions.result.now in
    let within : i < length left = omega arith in
    let agreeing = c.in_ok-agreeing.agreeing in
    let found : AreAgreeing columns left right agreeing = search rules in
    let s = c.index.result.now in
    let at : s ≡ get_or agreeing.ranges.items i s = search rules in
    let here : positions ≡ take (s.end - s.start) (drop s.start agreeing.order.items) = search rules in
    let grown : c.push_each.new.pairs.items ≡ old ++ with_each i positions = search rules in
    let long = ap length grown ∙ length-append old (with_each i positions) in
    let each = length-with_each i positions in
    record {
      pairs = ap (rows_paired left right) grown ∙ paired_more columns left right agreeing.order.items positions agreeing.ranges.items i s old found within at here c.loop-i.invariant.pairs;
      within = omega (arith, c.loop-i.invariant.within);
    }

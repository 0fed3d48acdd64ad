use Rattle.std.proofs.Common.{◌≡◌, ◌≢◌, ◌<◌, arith, bit_or, get_or}
use Rattle.std.proofs.lemmas.Grind.{common_steps}
use Rattle.wd_sets.proofs.Bits.{outside, within_next}
use Rattle.wd_sets.proofs.set.are_within.Goals as goal

pub loop-at-preserved : goal.loop-at-preserved
loop-at-preserved c =
    let at = c.loop-at.at in
    let word = get_or c.args.words.now at 0 in
    let among = bit_or (get_or c.args.first.now at 0) (get_or c.args.second.now at 0) in
    let same : bit_or word among ≡ among = grind (arith, common_steps) in
    within_next c.args.words.now c.args.first.now c.args.second.now at same c.loop-at.invariant

pub returns-then-word-among-clause-outside : goal.returns-then-word-among-clause-outside
returns-then-word-among-clause-outside c =
    let at = c.loop-at.at in
    let words = c.args.words.now in
    let first = c.args.first.now in
    let second = c.args.second.now in
    let among = bit_or (get_or first at 0) (get_or second at 0) in
    let f : get_or words at 0 < 18446744073709551616 = grind (arith, common_steps) in
    let g : get_or first at 0 < 18446744073709551616 = grind (arith, common_steps) in
    let h : get_or second at 0 < 18446744073709551616 = grind (arith, common_steps) in
    let apart : bit_or (get_or words at 0) among ≢ among = grind (arith, common_steps) in
    λ e. outside words first second at f g h apart

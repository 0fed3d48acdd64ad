use Rattle.std.proofs.Common.{◌++◌, ◌∙◌, pos, ◌+ℤ◌, ◌-ℤ◌, w64}
use Rattle.std.proofs.lemmas.Int.{to_z-of_z}
use Rattle.wd_varied.specs.Values.{held}
use Rattle.wd_varied.proofs.near.numbers_near.Goals as goal

pub returns : goal.returns
returns c =
    let same = to_z-of_z w64 c.args.number c.ranges.number in
    let one = c.in_ok-push_own.ensures ∙ (λ i. c.new-near.ensures.items i ++ held (same i)) in
    let two = c.in_ok-push_next.ensures ∙ (λ i. one i ++ held (same i +ℤ pos 1)) in
    let three = c.in_ok-push_twice_next.ensures ∙ (λ i. two i ++ held ((same i +ℤ same i) +ℤ pos 2)) in
    c.in_ok-push_before.ensures ∙ (λ i. three i ++ held (same i -ℤ pos 1))

use Rattle.std.proofs.Common.{arith, bit_or, get_or, refl}
use Rattle.std.proofs.lemmas.Grind.{common_steps}
use Rattle.wd_sets.proofs.Bits.{joined_next}
use Rattle.wd_sets.proofs.set.or_words.Goals as goal

pub loop-at-preserved : goal.loop-at-preserved
loop-at-preserved c =
    let words = c.loop-at.words in
    let at = c.loop-at.at in
    let others = c.args.others.now in
    (grind (arith, common_steps), λ i. joined_next c.args.words.now others i words at (bit_or (get_or words at 0) (get_or others at 0)) (omega (arith, c.requires, c.loop-at.invariant.0, c.loop-at-test.true)) refl (c.loop-at.invariant.1 i))

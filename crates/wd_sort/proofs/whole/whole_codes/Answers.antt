use Rattle.std.proofs.lemmas.Grind.{common_steps}
use Rattle.std.proofs.Common.{◌≡◌, ◌∙◌, ◌+◌, length, arith, rules}
use Rattle.std.specs.Prelude.{unsigned_abs, ◌-ℤ◌}
use Rattle.wd_sort.proofs.Codings.{coding_of_whole}
use Rattle.wd_sort.proofs.whole.whole_codes.Goals as goal

pub returns : goal.returns
returns c =
    let given = c.args.positions.now in
    let done : c.loop-k.k ≡ length given = omega arith in
    let range = c.args.range in
    let bound : c.in-Some.bound ≡ unsigned_abs (range.greatest -ℤ range.least) + 2 = search rules in
    coding_of_whole c.args.rows.now given c.args.column range.least range.greatest c.in-Some.bound c.loop-k.codes.items c.requires bound (c.loop-k.invariant.long ∙ done)
    (λ k low. c.loop-k.invariant.each k (omega arith))

pub loop-k-preserved : goal.loop-k-preserved
loop-k-preserved c = grind (arith, common_steps)

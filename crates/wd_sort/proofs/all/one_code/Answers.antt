use Rattle.std.proofs.lemmas.Grind.{common_steps}
use Rattle.std.proofs.Common.{◌≡◌, ◌∙◌, length, arith}
use Rattle.wd_sort.proofs.AllCodings.{AreCodesOfAll-none}
use Rattle.wd_sort.proofs.all.one_code.Goals as goal

pub returns : goal.returns
returns c =
    let rows = c.args.rows.now in
    let end : c.loop.counter ≡ length rows = omega arith in
    let kept = c.loop.invariant in
    AreCodesOfAll-none rows c.loop.codes.items (kept.long ∙ end) (λ p low. kept.zeros p (let long = kept.long in omega arith))

pub loop-preserved : goal.loop-preserved
loop-preserved c = grind (arith, common_steps)

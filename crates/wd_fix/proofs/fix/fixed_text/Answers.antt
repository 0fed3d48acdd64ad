use Rattle.std.proofs.Common.{◌+◌, drop, arith}
use Rattle.wd_fix.proofs.Putting.{at_fix, stands_next}
use Rattle.wd_fix.proofs.fix.fixed_text.Goals as goal

pub slice_bounds-extend_from_slice-end : goal.slice_bounds-extend_from_slice-end
slice_bounds-extend_from_slice-end c =
    let here = at_fix c.args.fixes.now c.loop-fix.fix-index c.fix-item.result c.loop-fix-test.true c.fix-item.is in
    let before = rw here at c.loop-fix.invariant in
    let next = stands_next c.args.text.now c.args.fixes.now (drop (c.loop-fix.fix-index + 1) c.args.fixes.now) c.loop-fix.start c.loop-fix.out.items c.fix-item.result before in
    omega (arith, next.0, next.1)

use Rattle.std.proofs.Common.{drop}
use Rattle.wd_fix.proofs.Putting.{IsPutUpTo}
use Rattle.wd_fix.proofs.fix.fixed_text.Given as goal

abbrev pub invariant-loop-fix : goal.invariant-loop-fix
invariant-loop-fix l = IsPutUpTo l.text l.fixes (drop l.fix-index l.fixes) l.start l.out.items

use Rattle.std.proofs.Common.{◌≡◌, length}
use Rattle.wd_distinct_on.specs.Selects.{respelled_below}
use Rattle.wd_distinct_on.proofs.selects.respell_backwards.Given as goal

abbrev pub invariant-loop-place : goal.invariant-loop-place
invariant-loop-place g l = respelled_below (g.S.Selects.starts l.fn.selects) (g.S.Selects.respelled l.fn.selects) l.left l.place l.query.items ≡ respelled_below (g.S.Selects.starts l.fn.selects) (g.S.Selects.respelled l.fn.selects) l.fn.most (length l.fn.tokens) l.fn.tokens

abbrev pub decreases-loop-place : goal.decreases-loop-place
decreases-loop-place g l = l.place

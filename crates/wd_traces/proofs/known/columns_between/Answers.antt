use Rattle.std.proofs.Common.{arith}
use Rattle.wd_traces.proofs.known.columns_between.Goals as goal

pub returns : goal.returns
returns c =
    λ m e.
    let found = c.loop-column.invariant.2 m e in
    (found.0, found.1, found.2, omega (arith, found.2, found.3, c.loop-column.invariant.0, c.loop-column.invariant.1))

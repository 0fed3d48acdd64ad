use Rattle.std.proofs.Common.{◌≡◌, []}
use Rattle.std.proofs.Common.{length}
use Rattle.wd_with.specs.Expanded.{Said}
use Rattle.wd_inner_with.specs.Inner.{most_inner, opened_below}
use Rattle.wd_inner_with.proofs.walk.without_inner_with.Given as goal

abbrev pub invariant-loop-place : goal.invariant-loop-place
invariant-loop-place l =
    let now : Said = record { tokens = l.query.items; read_twice = l.names.items } in
    let first : Said = record { tokens = l.fn.tokens; read_twice = [] } in
    opened_below l.left l.place now ≡ opened_below most_inner (length l.fn.tokens) first

abbrev pub decreases-loop-place : goal.decreases-loop-place
decreases-loop-place l = l.place

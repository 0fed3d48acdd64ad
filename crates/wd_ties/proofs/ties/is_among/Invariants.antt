use Rattle.std.proofs.Common.{◌≡◌, false, take}
use Rattle.wd_ties.specs.Ties.{is_among}
use Rattle.wd_ties.proofs.ties.is_among.Given as goal

abbrev pub invariant-loop-tie : goal.invariant-loop-tie
invariant-loop-tie l = is_among (take l.tie-index l.ties) l.table l.column ≡ false
